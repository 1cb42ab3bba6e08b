-- Ceilings, and pages that may be given to an area.
use Rattle.std.proofs.Common.{◌≡◌, ◌≢◌, ℕ, ◌-◌, ◌≤◌, IsTrue, List, ◌⊎◌, ⊎_elim, ap, sym, subst, ◌∙◌, arith}
use Rattle.rdb_types.specs.declared.file.FileId.{FileId}
use Rattle.rdb_types.specs.declared.file.FileKind.TheVariants.{Root as RootKind}
use Rattle.rdb_outside.specs.Disk.{View, LeftNow, Pending, IsStable}
use Rattle.rdb_outside.specs.Moments.{each_slot}
use Rattle.root_file.specs.declared.Root.{Root}
use Rattle.root_file.specs.Root.{IsRoot}
use Rattle.root_file.proofs.Readings.{one_root}
use Rattle.area_files.specs.Areas.{IsDataPage, space_page_of}
use Rattle.space_pages.specs.Space.{owner_of}
use Rattle.new_database.specs.Maker.{root_file}
use Rattle.disk_seats.specs.stable_lines.Slots.{area_file, owner_at, IsAreaFile}
use Rattle.disk_seats.specs.line_moves.declared.places.Place.{Place}
use Rattle.disk_seats.specs.line_moves.Calls.{OnlyWrites}
use Rattle.disk_seats.specs.line_moves.Changes.{IsForArea}
use Rattle.disk_seats.specs.Ledgers.{Ledger}
use Rattle.disk_seats.specs.Members.{LedgerFacts}
use Rattle.member_steps.specs.Beginning.{HasCeiling}

pub stays_written : (v w : View) (ceiling : ℕ) (file : FileId) (slot : ℕ) → IsTrue v.tells → file.kind ≢ RootKind → OnlyWrites file slot v w → HasCeiling (Pending v) ceiling → HasCeiling (Pending w) ceiling
stays_written v w ceiling file slot t other rest was content root q is = was content root (rest.pending t root_file 0 content (λ same at. other (ap (λ (f : FileId). f.kind) (sym same))) q) is

pub stays_raised : (v w : View) (ceiling : ℕ) (root : Root) → ceiling ≤ root.ceiling → ((content : List ℕ) → Pending w root_file 0 content → Pending v root_file 0 content ⊎ IsRoot content root) → HasCeiling (Pending v) ceiling → HasCeiling (Pending w) ceiling
stays_raised v w ceiling root le roots was content other q is = ⊎_elim (λ p. was content other p is) (λ this. let same = ap (λ (r : Root). r.ceiling) (one_root content other root is this) in omega (arith, same, le)) (roots content q)

pub stable_ceiling : (v : View) → IsStable v → (root : Root) → IsRoot (v.content root_file 0) root → HasCeiling (Pending v) root.ceiling
stable_ceiling v stable root stands content other q is =
    let same = ap (λ (r : Root). r.ceiling) (one_root content other root is (subst (λ (b : List ℕ). IsRoot b root) (sym (stable root_file 0 content q)) stands)) in omega (arith, same)

pub for_said : (v : View) → LeftNow v v.content → (g : Ledger) (place : Place) (area : ℕ) → LedgerFacts v g → IsAreaFile place.file → IsDataPage place.page
    → (owner_of place.page (v.content (area_file place.file) (space_page_of place.page - 1)) ≡ area) ⊎ (owner_of place.page (v.content (area_file place.file) (space_page_of place.page - 1)) ≡ 0) → IsForArea (Pending v) place area
for_said v left g place area was file plain said x p owned =
    let same : owner_of place.page (v.content (area_file place.file) (space_page_of place.page - 1)) ≡ owner_at x =
    was.facts.pages.owner place.file place.page x (v.content (area_file place.file) (space_page_of place.page - 1)) file plain p owned (each_slot v v.content left (area_file place.file) (space_page_of place.page - 1)) in
    ⊎_elim (λ here. sym same ∙ here) (λ none. absurd (omega (arith, same, none, owned))) said

pub for_unused : (v : View) (place : Place) (area : ℕ) → IsStable v → owner_at (v.content (area_file place.file) (place.page - 1)) ≡ 0 → IsForArea (Pending v) place area
for_unused v place area stable none x p owned = absurd (let same = ap owner_at (stable (area_file place.file) (place.page - 1) x p) in omega (arith, same, none, owned))
