-- The bytes of a slot determine what it says.
use Rattle.std.proofs.Common.{◌≡◌, ◌∙◌, sym, ℕ, List, Bool, true, false, refl, if◌then◌else◌}
use Rattle.root_file.specs.Root.{IsRoot}
use Rattle.root_file.specs.Member.{IsMember}
use Rattle.root_file.specs.declared.Root.{Root}

pub one_root : (slot : List ℕ) (a b : Root) → IsRoot slot a → IsRoot slot b → a ≡ b
one_root slot a b x y =
    let p = x.fields in let q = y.fields in
    let format : a.format ≡ b.format = cc in
    let state : a.state ≡ b.state = cc in
    let pages : a.limits.pages ≡ b.limits.pages = cc in
    let snaps : a.limits.snaps ≡ b.limits.snaps = cc in
    let entries : a.limits.entries ≡ b.limits.entries = cc in
    let slots : a.limits.slots ≡ b.limits.slots = cc in
    let ceiling : a.ceiling ≡ b.ceiling = cc in
    let applied : a.applied ≡ b.applied = cc in
    λ i. record {
      format = format i;
      state = state i;
      limits = record { pages = pages i; snaps = snaps i; entries = entries i; slots = slots i };
      ceiling = ceiling i;
      applied = applied i;
    }

one_bit : (a b : Bool) → ◌≡◌ {A = ℕ} (if a then 1 else 0) (if b then 1 else 0) → a ≡ b
one_bit true true same = refl
one_bit true false same = let bad : ⊥ = cc in absurd bad
one_bit false true same = let bad : ⊥ = cc in absurd bad
one_bit false false same = refl

pub one_attached : (slot : List ℕ) (m n : ℕ) (a b : Bool) → IsMember slot m a → IsMember slot n b → a ≡ b
one_attached slot m n a b x y = one_bit a b (sym x.1.1.0 ∙ y.1.1.0)
