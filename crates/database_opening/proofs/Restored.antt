-- Behind a barrier the transactions whose lines were all put back have ended, all at once.
use Rattle.std.proofs.Common.{◌≡◌, ◌≢◌, ℕ, zero, suc, ◌≤◌, ◌<◌, ◌==◌, Bool, true, false, if◌then◌else◌, Option, Some, None, ◌⊎◌, inl, inr, ⊎_elim, refl, sym, ◌∙◌, ap, subst, arith}
use Rattle.std.proofs.lemmas.Bool.{eq-eqb}
use Rattle.rdb_outside.specs.Disk.{Image}
use Rattle.root_file.specs.declared.Root.{Root}
use Rattle.line_view.specs.Knowledge.{Lines}
use Rattle.line_opening.specs.stable_lines.Journal.{Journal}
use Rattle.line_opening.specs.stable_lines.Progress.{Open}
use Rattle.line_opening.specs.stable_lines.Facts.{PendingContents, Only, Facts}
use Rattle.line_opening.specs.stable_lines.Opening.{found}
use Rattle.line_opening.proofs.of_stable_lines.Barrier.{lines_undone}
use Rattle.line_opening.specs.Undoing.{AreUndone}

not_both : (b : Bool) → b ≡ true → b ≡ false → ⊥
not_both b is isnt = let bad : true ≡ false = sym is ∙ isnt in cc

eq_from : (a b : ℕ) → (a == b) ≡ true → a ≡ b
eq_from a b h = grind arith

apart_from : (a b : ℕ) → (a == b) ≡ false → a ≢ b
apart_from a b off same = not_both (a == b) (eq-eqb a b same) off

module _ (P : PendingContents) (image : Image) (only : Only P image) (classes : ℕ → ℕ) (lines : Lines) (j : Journal) (root : Root) (going : ℕ → Option Open)
    (facts : Facts P (found classes lines j root going)) (back : (member : ℕ) (o : Open) → going member ≡ Some o → AreUndone image o 0) where
  -- without the members before one
  abbrev ended : ℕ → ℕ → Option Open
  ended zero member = going member
  ended (suc k) member = if member == k then None else ended k member

  with_going : (a b : ℕ → Option Open) → ((member : ℕ) → a member ≡ b member) → Facts P (found classes lines j root a) → Facts P (found classes lines j root b)
  with_going a b same was = subst (λ (g : ℕ → Option Open). Facts P (found classes lines j root g)) (λ i member. same member i) was

  is_or : (k member : ℕ) → (ended k member ≡ None) ⊎ (ended k member ≡ going member)
  is_or zero member = inr refl
  is_or (suc k) member = by (member == k) (is_or k member)
    where
      by : (b : Bool) → ((ended k member ≡ None) ⊎ (ended k member ≡ going member)) → ((if b then None else ended k member) ≡ None) ⊎ ((if b then None else ended k member) ≡ going member)
      by true was = inl refl
      by false was = was

  gone : (k member : ℕ) → member < k → ended k member ≡ None
  gone zero member less = absurd (omega (arith, less))
  gone (suc k) member less = by (member == k) refl (λ before. gone k member before)
    where
      by : (b : Bool) → (member == k) ≡ b → (member < k → ended k member ≡ None) → (if b then None else ended k member) ≡ None
      by true here was = refl
      by false off was = was (let apart : member ≢ k = apart_from member k off in omega (arith, less, apart))

  next : (k : ℕ) (o : Option Open) → ended k k ≡ o → Facts P (found classes lines j root (ended k)) → Facts P (found classes lines j root (ended (suc k)))
  next k None is was = with_going (ended k) (ended (suc k)) (λ member. by member (member == k) refl) was
    where
      by : (member : ℕ) (b : Bool) → (member == k) ≡ b → ended k member ≡ (if b then None else ended k member)
      by member true here = ap (λ (m : ℕ). ended k m) (eq_from member k here) ∙ is
      by member false off = refl
  next k (Some o) is was =
      with_going (λ member. if member == k then None else ended k member) (ended (suc k)) (λ member. refl)
      (lines_undone P (found classes lines j root (ended k)) image only was k o is (λ f flies. let bad : None ≡ Some f = flies in absurd (cc)) (λ i undo got. back k o there i undo (omega arith) got))
    where
      there : going k ≡ Some o
      there = ⊎_elim (λ none. let bad : None ≡ Some o = sym none ∙ is in absurd (cc)) (λ same. sym same ∙ is) (is_or k k)

  up_to : (k : ℕ) → Facts P (found classes lines j root (ended k))
  up_to zero = facts
  up_to (suc k) = next k (ended k k) refl (up_to k)

  none_at : (k : ℕ) → 16 < k → (member : ℕ) → ended k member ≡ None
  none_at k past member = ⊎_elim (λ less. gone k member less) (λ le. ⊎_elim (λ none. none) (λ same. same ∙ beyond (going member) refl le) (is_or k member)) (cases member k)
    where
      cases : (a b : ℕ) → (a < b) ⊎ (b ≤ a)
      cases a b = grind arith

      beyond : (o : Option Open) → going member ≡ o → k ≤ member → going member ≡ None
      beyond None is le = is
      beyond (Some o) is le = let last = (facts.going member o is).is_member.last in absurd (omega (arith, last, le, past))

  ended_all : (k : ℕ) → 16 < k → Facts P (found classes lines j root (λ member. None))
  ended_all k past = with_going (ended k) (λ member. None) (none_at k past) (up_to k)

  pub all_ended : Facts P (found classes lines j root (λ member. None))
  all_ended = ended_all 17 (omega arith)
