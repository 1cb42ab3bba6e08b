-- Lines and rooms among those that are named.
use Rattle.std.proofs.Common.{◌≡◌, inl, inr, ℕ, ◌<◌, ◌+◌, List, [], ◌∷◌, subst, ap, ◌∙◌}
use Rattle.rdb_types.specs.declared.keys.Dbkey.{Dbkey}
use Rattle.line_view.specs.declared.need.Need.{Need}
use Rattle.line_view.specs.declared.need.Need.TheVariants as kinds
use Rattle.line_view.specs.declared.need.Room.{Room}
use Rattle.index_ahead.specs.Added.{IsIn}
use Rattle.rdo_acts.specs.Looking.{IsLineOf, IsRoomWithin}

-- a line of these
pub line_of : (keys : List Dbkey) (key : Dbkey) (need : Need) → IsIn keys key → need ≡ kinds.Line key → IsLineOf keys need
line_of [] key need there is = absurd there
line_of (k ∷ ks) key need (inl same) is = inl (subst (λ (x : Dbkey). need ≡ kinds.Line x) same is)
line_of (k ∷ ks) key need (inr later) is = inr (line_of ks key need later is)

-- a room so many behind this one
pub room_within : (room : Room) (more n nth : ℕ) (need : Need) → n < more → nth ≡ room.nth + n → need ≡ kinds.Room (record { area = room.area; class = room.class; nth = nth }) → IsRoomWithin room more need
room_within room more n nth need less far is = (n, less, is ∙ ap (λ (k : ℕ). kinds.Room (record { area = room.area; class = room.class; nth = k })) far)
