use Rattle.std.proofs.Common.{rules, ◌≡◌, ◌⊎◌, inl, inr, ⊎_elim, ◌+◌, ◌++◌, ℕ, zero, suc, List, [], ◌∷◌, length, Some, slice_get, sym, ap, subst, ◌∙◌, length-append}
use Rattle.std.proofs.lemmas.Option.{same_Some, none-some}
use Rattle.disk_store.specs.declared.member.Member.{Member}
use Rattle.disk_store.specs.Opening.{IsFresh}
use Rattle.disk_store.proofs.opening.fresh_all.Goals as goal

get-pushed : (xs : List Member) (x : Member) (s : ℕ) (m : Member) → slice_get (xs ++ x ∷ []) s ≡ Some m → (slice_get xs s ≡ Some m) ⊎ (m ≡ x)
get-pushed [] x zero m is = inr (sym (same_Some _ _ is))
get-pushed [] x (suc s) m is = absurd (none-some m is)
get-pushed (y ∷ ys) x zero m is = inl is
get-pushed (y ∷ ys) x (suc s) m is = get-pushed ys x s m is

pub loop-place-init : goal.loop-place-init
loop-place-init c = record { long = search rules; fresh = λ s m is. absurd (none-some m (search (rules, is))) }

pub loop-place-preserved : goal.loop-place-preserved
loop-place-preserved c = let was = c.loop-place.invariant in
    let more : c.push.new.self.items ≡ c.loop-place.members.items ++ c.fresh.result ∷ [] = search rules in
    record {
      long = ap (λ (l : List Member). length l) more ∙ length-append c.loop-place.members.items (c.fresh.result ∷ []) ∙ ap (λ (n : ℕ). n + 1) was.long;
      fresh = λ s m is. ⊎_elim (λ before. was.fresh s m before) (λ new. subst (λ (x : Member). IsFresh x) (sym new) c.fresh.ensures)
          (get-pushed c.loop-place.members.items c.fresh.result s m (sym (ap (λ (l : List Member). slice_get l s) more) ∙ is));
    }
