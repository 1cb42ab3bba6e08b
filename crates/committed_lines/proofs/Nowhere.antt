-- A line without a place isn't committed.
use Rattle.std.proofs.Common.{◌≡◌, ◌∙◌, ℕ, Bool, true, false, List, None, ⊎_elim, ap, refl, sym, subst, arith}
use Rattle.rdb_types.specs.declared.keys.Dbkey.{Dbkey}
use Rattle.rdb_page.specs.Page.{IsOwner, IsUnused}
use Rattle.area_files.specs.Areas.{IsDataPage}
use Rattle.rdb_page.specs.Whole.{IsUsedPage}
use Rattle.rdb_outside.specs.Disk.{View, LeftNow, Pending}
use Rattle.rdb_outside.specs.Moments.{each_slot}
use Rattle.line_view.specs.Knowledge.{line_in}
use Rattle.line_versions.specs.Lines.{storage_area}
use Rattle.stable_lines.specs.Slots.{file_of, slot_of, has_place, line_on, line_at}
use Rattle.rdb_page.specs.Lines.{never}
use Rattle.stable_lines.proofs.Never.{zeros_owner, not_committed}
use Rattle.line_moves.specs.declared.places.Place.{Place}
use Rattle.line_moves.specs.Changes.{IsPlaceOf}
use Rattle.line_moves.proofs.Putting.{HasPlace, place_says}
use Rattle.line_moves.proofs.Reading.{owner_is, line_none}
use Rattle.member_steps.specs.disk_seats.Ledgers.{Ledger, progress_of}
use Rattle.member_steps.specs.disk_seats.Members.{LedgerFacts}
use Rattle.member_steps.proofs.ClassesHad.{is_area_file, is_data}
use Rattle.member_steps.proofs.Standings.{same_lines}

module _ (v : View) (left : LeftNow v v.content) (g : Ledger) (was : LedgerFacts v g) (key : Dbkey) where
  abbrev x : List ℕ
  x = v.content (file_of key) (slot_of key)

  there : Pending v (file_of key) (slot_of key) x
  there = each_slot v v.content left (file_of key) (slot_of key)

  -- a key that its page has a place for
  placed : has_place key x ≡ true → IsPlaceOf key (record { file = storage_area key.area; page = key.page })
  placed has = record { owner = ⊎_elim unused of_used (was.facts.pages.page (storage_area key.area) key.page x (is_area_file key.area) plain there); page = refl; is_data = plain }
    where
      plain : IsDataPage key.page
      plain = is_data (Pending v) (progress_of g) was.facts key x there has

      says : HasPlace key x
      says = place_says key x has

      unused : IsUnused x → IsOwner (storage_area key.area) key.area
      unused none = let zero_is = zeros_owner x none in let owned = says.owned in let some = says.area in absurd (omega (arith, zero_is, owned, some))

      of_used : IsUsedPage (storage_area key.area) key.page x → IsOwner (storage_area key.area) key.area
      of_used used = subst (λ (n : ℕ). IsOwner (storage_area key.area) n) (sym (owner_is x used.head used.stands.head) ∙ says.owned) used.stands.owner

  -- it was never used
  pub never_there : ((place : Place) → IsPlaceOf key place → ⊥) → line_at v.content key ≡ never
  never_there none = by (has_place key x) refl
    where
      by : (b : Bool) → has_place key x ≡ b → line_on key x ≡ never
      by true has = absurd (none _ (placed has))
      by false is = line_none key x is

  pub nowhere : ((place : Place) → IsPlaceOf key place → ⊥) → line_in key g.base.lines ≡ None
  nowhere none = ap (λ l. line_in key l) (sym (same_lines v g was)) ∙ not_committed (Pending v) (progress_of g) was.facts key x there (never_there none)
