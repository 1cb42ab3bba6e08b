-- Reports of workloads that ended before one was written, and of those that came to it.
use Rattle.std.proofs.Common.{◌≡◌, ◌+◌, ◌⊎◌, inl, inr, ℕ, zero, suc, List, [], ◌∷◌, length, get_or, refl, sym, subst, arith}
use Rattle.std.specs.Prelude.{pos}
use Rattle.rdb_outside.specs.Disk.{View}
use Rattle.rdb_account.specs.declared.event.Event.{Event}
use Rattle.rmu_commands.specs.Written.{HasText}
use Rattle.rmu_commands.proofs.Statuses.{GaveUp, no_text}
use Rattle.workload_runs.specs.Reports.{Reports}
use Rattle.workload_runs.specs.Statuses.{last_of}

-- nothing is written where it gave up
pub gave-up : (disk : View) (last : List Event) (status : ℕ) (SinkTells : Type 0) (old new : List ℕ) → GaveUp status → (SinkTells → new ≡ old) → Reports disk last status SinkTells old new
gave-up disk last status SinkTells old new is same = record {
  counted = record { accounts = pos 0; total = pos 0 };
  faults = [];
  printed = λ text. absurd (no_text status is text);
  are = λ text t journal isj. absurd (no_text status is text);
  none = λ zero_is. refl;
  some = λ seven none. no_text status is (inr (inr seven));
  writes = λ tells. record {
    whole = λ done. elim done [ inl zero_is ↦ absurd (no_text status is (inl zero_is)) | inr seven ↦ absurd (no_text status is (inr (inr seven))) ];
    front = λ six. absurd (no_text status is (inr (inl six)));
    none = λ gave. same tells;
  };
  silent = λ tells other. same tells;
}

-- nor where a session died, or a database was there
pub ended : (disk : View) (last : List Event) (status : ℕ) (SinkTells : Type 0) (old new : List ℕ) → (status ≡ 8) ⊎ (status ≡ 9) → (SinkTells → new ≡ old) → Reports disk last status SinkTells old new
ended disk last status SinkTells old new is same = record {
  counted = record { accounts = pos 0; total = pos 0 };
  faults = [];
  printed = λ text. absurd (not-text is text);
  are = λ text t journal isj. absurd (not-text is text);
  none = λ zero_is. refl;
  some = λ seven none. not-text is (inr (inr seven));
  writes = λ tells. record {
    whole = λ done. elim done [ inl zero_is ↦ absurd (not-text is (inl zero_is)) | inr seven ↦ absurd (not-text is (inr (inr seven))) ];
    front = λ six. absurd (not-text is (inr (inl six)));
    none = λ gave. same tells;
  };
  silent = λ tells other. same tells;
}
  where
    not-text : (status ≡ 8) ⊎ (status ≡ 9) → HasText status → ⊥
    not-text either text = grind arith

-- where the runs ended it
pub of-runs : (disk : View) (last : List Event) (status : ℕ) (SinkTells : Type 0) (old new : List ℕ) → (status ≡ 3) ⊎ (status ≡ 4) ⊎ (status ≡ 5) ⊎ (status ≡ 8) → (SinkTells → new ≡ old) → Reports disk last status SinkTells old new
of-runs disk last status SinkTells old new (inl three) same = gave-up disk last status SinkTells old new (inl three) same
of-runs disk last status SinkTells old new (inr (inl four)) same = gave-up disk last status SinkTells old new (inr (inl four)) same
of-runs disk last status SinkTells old new (inr (inr (inl five))) same = gave-up disk last status SinkTells old new (inr (inr five)) same
of-runs disk last status SinkTells old new (inr (inr (inr eight))) same = ended disk last status SinkTells old new (inl eight) same

-- ---- where a report was written

-- under its statuses something may be written
pub speaks : (status : ℕ) → (status ≡ 0) ⊎ (status ≡ 5) ⊎ (status ≡ 6) ⊎ (status ≡ 7) → (status ≡ 8) ⊎ (status ≡ 9) → ⊥
speaks status is other = grind arith

pub same-report : (disk known : View) (last counted : List Event) (status said : ℕ) (SinkTells : Type 0) (old new more : List ℕ)
    → disk ≡ known → last ≡ counted → status ≡ said → new ≡ more → Reports known counted said SinkTells old more → Reports disk last status SinkTells old new
same-report disk known last counted status said SinkTells old new more d l s n is =
    subst (λ (v : View). Reports v last status SinkTells old new) (sym d)
    (subst (λ (es : List Event). Reports known es status SinkTells old new) (sym l)
    (subst (λ (m : ℕ). Reports known counted m SinkTells old new) (sym s)
    (subst (λ (bytes : List ℕ). Reports known counted said SinkTells old bytes) (sym n) is)))

-- the last of some accounts, by its place
pub last-is : (accounts : List (List Event)) (last : List Event) (at : ℕ) → last ≡ get_or accounts at last → at + 1 ≡ length accounts → last_of accounts ≡ last
last-is [] last at is behind = absurd (let no : ⊥ = omega (arith, behind) in no)
last-is (e ∷ []) last at is behind = let first : at ≡ 0 = omega (arith, behind) in sym (subst (λ (n : ℕ). last ≡ get_or (e ∷ []) n last) first is)
last-is (e ∷ d ∷ es) last zero is behind = absurd (let no : ⊥ = omega (arith, behind) in no)
last-is (e ∷ d ∷ es) last (suc at) is behind = last-is (d ∷ es) last at is (omega (arith, behind))
