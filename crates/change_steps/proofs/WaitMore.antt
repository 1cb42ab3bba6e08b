-- One line more waits, which stands above its version before.
use Rattle.std.proofs.Common.{◌≡◌, ◌≢◌, ◌<◌, ◌+◌, ℕ, zero, suc, Bool, true, false, cond, ◌∷◌, Some, ◌⊎◌, inl, inr, refl, sym, ap, subst, ◌∙◌, arith}
use Rattle.std.specs.Prelude.{slice_get}
use Rattle.std.specs.Ordering.{is_eq}
use Rattle.std.specs.Cmp.{tied_itself}
use Rattle.std.specs.FinMap.Entries.{find, find-put, put}
use Rattle.std.proofs.lemmas.Bool.{true≢false}
use Rattle.std.proofs.lemmas.Option.{same_Some}
use Rattle.rdb_types.specs.declared.keys.Dbkey.{Dbkey}
use Rattle.rdb_types.specs.declared.keys.Line.{Line}
use Rattle.rdb_types.specs.Order.{dbkey_order}
use Rattle.rdb_types.specs.OrderLaws.{dbkey_total, same_dbkey}
use Rattle.line_moves.specs.Lines.{ChangedLines, HasLine}
use Rattle.disk_versions.specs.Versions.{PutsIn, IsNoneOfThem}
use Rattle.ledger_versions.specs.Readers.{HasVersionOf}
use Rattle.member_memory.specs.Memory.{Memory}
use Rattle.member_memory.proofs.Growing.{tied}
use Rattle.disk_store.specs.ChangeSteps.{rechained}
use Rattle.disk_store.specs.Shown.{IsPushed, WaitPushed}

pair-key : (a b : Dbkey × Line) → Some a ≡ Some b → a ≡ b
pair-key a b same = same_Some a b same

module _ (ls : ChangedLines) (pushed : ℕ) (old new : Memory) (key : Dbkey) (line : Line) (chain : ℕ) (once : (i k : ℕ) (q : Dbkey) → slice_get old.keys i ≡ Some q → slice_get old.keys k ≡ Some q → i ≡ k)
    (is : slice_get old.keys pushed ≡ Some key) (keys : new.keys ≡ old.keys) (lines : new.lines ≡ put dbkey_order key (rechained chain line) old.lines) (was : WaitPushed ls pushed old) where
  abbrev more : ChangedLines
  more = (key, rechained chain line) ∷ ls

  found-now : (q : Dbkey) → find dbkey_order q new.lines ≡ cond (is_eq (dbkey_order q key)) (Some (rechained chain line)) (find dbkey_order q old.lines)
  found-now q = ap (find dbkey_order q) lines ∙ find-put dbkey_order dbkey_total q key (rechained chain line) old.lines

  key-now : (i : ℕ) (q : Dbkey) → slice_get new.keys i ≡ Some q → slice_get old.keys i ≡ Some q
  key-now i q at = ap (λ ks. slice_get ks i) (sym keys) ∙ at

  -- an earlier key is another
  earlier : (i : ℕ) (q : Dbkey) → i < pushed → slice_get old.keys i ≡ Some q → is_eq (dbkey_order q key) ≡ false
  earlier i q less at = by (is_eq (dbkey_order q key)) refl
    where
      by : (b : Bool) → is_eq (dbkey_order q key) ≡ b → b ≡ false
      by false e = refl
      by true e = absurd (let same = once i pushed key (at ∙ ap Some (same_dbkey q key (tied _ e))) is in omega (arith, same, less))

  itself-tied : is_eq (dbkey_order key key) ≡ true
  itself-tied = ap is_eq (tied_itself dbkey_total key)

  -- none of those that wait is of the key
  pub none-waits : IsNoneOfThem ls key
  none-waits i l got same =
      let p = was.each i l got in
      let at = once p.place pushed key (p.is ∙ ap Some same) is in
      let early = p.early in
      omega (arith, at, early)

  pub puts-in : PutsIn ls key (rechained chain line) more
  puts-in = record {
    each = λ i l got. each i l got;
    kept = λ i l got ne. record { index = suc i; line = l; is = got; key_is = refl; value_is = refl };
    here = record { index = 0; line = (key, rechained chain line); is = refl; key_is = refl; value_is = refl };
  }
    where
      each : (i : ℕ) (l : Dbkey × Line) → slice_get more i ≡ Some l → HasLine ls l.0 l.1 ⊎ ((l.0 ≡ key) × (l.1 ≡ rechained chain line))
      each zero l got = let same = pair-key (key, rechained chain line) l got in inr (ap (λ (x : Dbkey × Line). x.0) (sym same), ap (λ (x : Dbkey × Line). x.1) (sym same))
      each (suc i) l got = inl (record { index = i; line = l; is = got; key_is = refl; value_is = refl })

  wait-each : (i : ℕ) (l : Dbkey × Line) → slice_get more i ≡ Some l → IsPushed (pushed + 1) new l.0 l.1
  wait-each zero l got = subst (λ (x : Dbkey × Line). IsPushed (pushed + 1) new x.0 x.1) (pair-key (key, rechained chain line) l got) (record {
    place = pushed;
    early = omega arith;
    is = ap (λ ks. slice_get ks pushed) keys ∙ is;
    now = rechained chain line;
    found = found-now key ∙ ap (λ b. cond b (Some (rechained chain line)) (find dbkey_order key old.lines)) itself-tied;
    tsn = refl;
    chain = refl;
  })
  wait-each (suc i) l got =
      let p = was.each i l got in
      record {
        place = p.place;
        early = let early = p.early in omega (arith, early);
        is = ap (λ ks. slice_get ks p.place) keys ∙ p.is;
        now = p.now;
        found = found-now l.0 ∙ ap (λ b. cond b (Some (rechained chain line)) (find dbkey_order l.0 old.lines)) (earlier p.place l.0 p.early p.is) ∙ p.found;
        tsn = p.tsn;
        chain = p.chain;
      }

  wait-all : (place : ℕ) (q : Dbkey) (now : Line) → place < pushed + 1 → slice_get new.keys place ≡ Some q → find dbkey_order q new.lines ≡ Some now → HasVersionOf more q now
  wait-all place q now less at found = by (is_eq (dbkey_order q key)) refl
    where
      by : (b : Bool) → is_eq (dbkey_order q key) ≡ b → HasVersionOf more q now
      by true e =
          let same : rechained chain line ≡ now = same_Some _ _ (ap (λ b. cond b (Some (rechained chain line)) (find dbkey_order q old.lines)) (sym e) ∙ sym (found-now q) ∙ found) in
          record { index = 0; line = (key, rechained chain line); is = refl; key_is = sym (same_dbkey q key (tied _ e)); tsn_is = ap (λ (l : Line). l.tsn) same; chain_is = ap (λ (l : Line). l.chain) same }
      by false e =
          let has = was.all place q now (before e) (key-now place q at) (ap (λ b. cond b (Some (rechained chain line)) (find dbkey_order q old.lines)) (sym e) ∙ sym (found-now q) ∙ found) in
          record { index = suc has.index; line = has.line; is = has.is; key_is = has.key_is; tsn_is = has.tsn_is; chain_is = has.chain_is }
        where
          apart : is_eq (dbkey_order q key) ≡ false → place ≢ pushed
          apart e same =
              let alike : q ≡ key = same_Some _ _ (sym (key-now place q at) ∙ ap (λ k. slice_get old.keys k) same ∙ is) in
              true≢false (sym itself-tied ∙ ap (λ (k : Dbkey). is_eq (dbkey_order k key)) (sym alike) ∙ e)

          before : is_eq (dbkey_order q key) ≡ false → place < pushed
          before e = let off = apart e in omega (arith, less, off)

  pub wait-more : WaitPushed more (pushed + 1) new
  wait-more = record { each = wait-each; all = wait-all }
