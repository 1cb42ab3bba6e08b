-- What the answers of a change's steps share.
use Rattle.std.proofs.Common.{◌≡◌, ◌<◌, ℕ, List, Some, ap, ◌∙◌, arith}
use Rattle.std.specs.Prelude.{slice_get, slice_set}
use Rattle.rdb_types.specs.declared.keys.Dbkey.{Dbkey}
use Rattle.line_moves.specs.declared.places.Place.{Place}
use Rattle.line_moves.specs.Changes.{IsPlaceOf}
use Rattle.disk_store.specs.declared.member.Member.{Member}
use Rattle.disk_store.specs.Memory.{StoreMemory}
use Rattle.disk_store.specs.Seats.{steps_at, steps_of, steps_in}
use Rattle.disk_store.specs.Sound.{IsSound}
use Rattle.disk_store.proofs.Members.{set-here, get-within}
use Rattle.disk_store.proofs.SlotsSound.{found-key}

-- a key of a session has a place
pub place-for : (held : StoreMemory) (sound : IsSound held) (s : ℕ) (m : Member) (was : slice_get held.members s ≡ Some m) (place : ℕ) (key : Dbkey) → slice_get m.written.keys place ≡ Some key → (p : Place) × IsPlaceOf key p
place-for held sound s m was place key is = let f = found-key held sound s m was place key is in let lies = (sound.each s m was).lies key f.0 f.1 in (lies.place, lies.is)

-- less is left of a member that was another
pub fewer-at : (members behind : List Member) (s : ℕ) (m n : Member) → slice_get members s ≡ Some m → behind ≡ slice_set members s n → steps_in n.stage n < steps_in m.stage m → steps_at behind s < steps_at members s
fewer-at members behind s m n was is less =
    let new : steps_at behind s ≡ steps_in n.stage n = ap (λ ms. steps_at ms s) is ∙ ap steps_of (set-here members s n (get-within members s m was)) in
    let old : steps_at members s ≡ steps_in m.stage m = ap steps_of was in
    omega (arith, new, old, less)
