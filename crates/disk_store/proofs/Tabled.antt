-- The tables behind a page that is taken.
use Rattle.std.specs.Prelude.{nat_le}
use Rattle.std.proofs.Common.{◌≡◌, ◌≢◌, ◌≤◌, ◌-◌, ◌+◌, ◌==◌, ◌⊎◌, inl, inr, ⊎_elim, ℕ, Bool, true, false, cond, List, length, replicate, refl, sym, ap, subst, ◌∙◌, arith}
use Rattle.std.proofs.lemmas.Bool.{eqb-true, eqb-false, leb-true, leb-false}
use Rattle.std.proofs.lemmas.List.{length-replicate}
use Rattle.rdb_types.specs.File.{slot_bytes}
use Rattle.rdb_page.specs.Page.{IsOwner, IsUnused, class_at}
use Rattle.rdb_page.specs.Whole.{IsUsedPage}
use Rattle.rdb_outside.specs.Disk.{View, Pending, zeros}
use Rattle.area_files.specs.Areas.{IsDataPage}
use Rattle.stable_lines.specs.Slots.{area_file, owner_at, IsAreaFile}
use Rattle.stable_lines.proofs.Never.{zeros_owner}
use Rattle.line_moves.specs.declared.places.Place.{Place}
use Rattle.line_moves.specs.Changes.{IsForArea}
use Rattle.line_moves.specs.Classes.{HaveTheirClasses}
use Rattle.line_moves.proofs.Reading.{owner_is}
use Rattle.line_moves.proofs.Putting.{nat_cases}
use Rattle.ledger_versions.specs.disk_seats.Ledgers.{Ledger}
use Rattle.ledger_versions.specs.disk_seats.Members.{LedgerFacts}
use Rattle.ledger_versions.proofs.of_disk_seats.Progresses.{same_limits}
use Rattle.member_rooms.specs.page_table.declared.uses.PageUse.{PageUse}
use Rattle.member_rooms.specs.page_table.Pages.{Pages, nobodys, use_of, owner_in, class_in, empty_of, IsWithin, Puts}
use Rattle.member_rooms.specs.page_table.Scans.{IsNew}
use Rattle.member_rooms.specs.committed_tables.Tables.{HasCommitted}
use Rattle.member_rooms.proofs.of_committed_tables.Following.{taken_behind}
use Rattle.member_rooms.specs.Classes.{IsClassOf, HasNoOwned}
use Rattle.disk_store.specs.declared.held.Tables.{Tables}
use Rattle.disk_store.specs.Shown.{pages_of, TablesStand}
use Rattle.disk_store.specs.Taken.{TakesIn}
use Rattle.disk_store.proofs.Moving.{itself}

pub some-owner : (file area : ℕ) → IsOwner file area → 1 ≤ area
some-owner file area (inl first) = omega (arith, first.1)
some-owner file area (inr (inl second)) = omega (arith, second.1)
some-owner file area (inr (inr third)) = omega (arith, third.1)

pub file-of : (file area : ℕ) → IsOwner file area → IsAreaFile file
file-of file area (inl first) = record { first = omega (arith, first.0); last = omega (arith, first.0) }
file-of file area (inr (inl second)) = record { first = omega (arith, second.0); last = omega (arith, second.0) }
file-of file area (inr (inr third)) = record { first = omega (arith, third.0); last = omega (arith, third.0) }

-- an area lies in one file
pub one-file : (a b area : ℕ) → IsOwner a area → IsOwner b area → a ≡ b
one-file a b area (inl x) (inl y) = x.0 ∙ sym y.0
one-file a b area (inl x) (inr (inl y)) = absurd (omega (arith, x.1, y.1))
one-file a b area (inl x) (inr (inr y)) = absurd (omega (arith, x.1, y.1))
one-file a b area (inr (inl x)) (inl y) = absurd (omega (arith, x.1, y.1))
one-file a b area (inr (inl x)) (inr (inl y)) = x.0 ∙ sym y.0
one-file a b area (inr (inl x)) (inr (inr y)) = absurd (omega (arith, x.2, y.2))
one-file a b area (inr (inr x)) (inl y) = absurd (omega (arith, x.1, y.1))
one-file a b area (inr (inr x)) (inr (inl y)) = absurd (omega (arith, x.2, y.2))
one-file a b area (inr (inr x)) (inr (inr y)) = x.0 ∙ sym y.0

zeros-owner : (file : ℕ) (x : List ℕ) → x ≡ zeros (area_file file) → owner_at x ≡ 0
zeros-owner file x is = let n = slot_bytes (area_file file) in ap owner_at is ∙ zeros_owner (replicate n 0) (ap (λ (m : ℕ). replicate m 0) (sym (length-replicate {A = ℕ} n 0)))

pub apart-test : (a b : ℕ) → (a ≡ b → ⊥) → (a == b) ≡ false
apart-test a b apart = by (a == b) refl
  where
    by : (t : Bool) → (a == b) ≡ t → (a == b) ≡ false
    by true is = absurd (apart (eqb-true a b is))
    by false is = is

-- ---- a page is put into the table of its file

module _ (file page area class : ℕ) (old : Tables) (table : Pages) where
  pub takes-catalog : file ≡ 1 → Puts page (empty_of area class) old.catalog table → TakesIn file page area class old (record { catalog = table; relations = old.relations; indexes = old.indexes })
  takes-catalog is puts = subst (λ (f : ℕ). TakesIn f page area class old (record { catalog = table; relations = old.relations; indexes = old.indexes })) (sym is) (record {
    here = puts;
    others = λ other apart. let no = apart-test other 1 apart in
        let rest = cond (other == 2) old.relations (cond (other == 3) old.indexes (replicate (length old.indexes) nobodys)) in
        ap (λ (b : Bool). cond b table rest) no ∙ sym (ap (λ (b : Bool). cond b old.catalog rest) no);
  })

  pub takes-relations : file ≡ 2 → Puts page (empty_of area class) old.relations table → TakesIn file page area class old (record { catalog = old.catalog; relations = table; indexes = old.indexes })
  takes-relations is puts = subst (λ (f : ℕ). TakesIn f page area class old (record { catalog = old.catalog; relations = table; indexes = old.indexes })) (sym is) (record {
    here = puts;
    others = λ other apart. let no = apart-test other 2 apart in
        let rest = cond (other == 3) old.indexes (replicate (length old.indexes) nobodys) in
        ap (λ (b : Bool). cond (other == 1) old.catalog (cond b table rest)) no ∙ sym (ap (λ (b : Bool). cond (other == 1) old.catalog (cond b old.relations rest)) no);
  })

  pub takes-indexes : file ≡ 3 → Puts page (empty_of area class) old.indexes table → TakesIn file page area class old (record { catalog = old.catalog; relations = old.relations; indexes = table })
  takes-indexes is puts = subst (λ (f : ℕ). TakesIn f page area class old (record { catalog = old.catalog; relations = old.relations; indexes = table })) (sym is) (record {
    here = puts;
    others = λ other apart. let no = apart-test other 3 apart in
        ap (λ (b : Bool). cond (other == 1) old.catalog (cond (other == 2) old.relations (cond b table (replicate (length table) nobodys)))) no
        ∙ (ap (λ (n : ℕ). cond (other == 1) old.catalog (cond (other == 2) old.relations (replicate n nobodys))) puts.long
        ∙ sym (ap (λ (b : Bool). cond (other == 1) old.catalog (cond (other == 2) old.relations (cond b old.indexes (replicate (length old.indexes) nobodys)))) no));
  })

module _ (v : View) (g : Ledger) (tables : Tables) (facts : LedgerFacts v g) (stand : TablesStand v g tables) (file area : ℕ) (owner : IsOwner file area) where
  module _ (long : (f : ℕ) → length (pages_of tables f) ≡ g.base.limits.pages) (none : HasNoOwned (pages_of tables file) area) where
    -- no page that a crash may leave is the area's
    no-page : (f number : ℕ) (x : List ℕ) → IsAreaFile f → IsDataPage number → Pending v (area_file f) (number - 1) x → owner_at x ≡ area → ⊥
    no-page f number x is page-is may is-area = by (nat_le number (length (pages_of tables f))) refl
      where
        some : 1 ≤ area
        some = some-owner file area owner

        lies : IsOwner f area
        lies = ⊎_elim
            (λ (unused : IsUnused x). let zero = zeros_owner _ unused in absurd (omega (arith, zero, is-area, some)))
            (λ (used : IsUsedPage f number x). subst (λ (n : ℕ). IsOwner f n) (sym (owner_is _ used.head used.stands.head) ∙ is-area) used.stands.owner)
            (facts.facts.pages.page f number x is page-is may)

        same-file : f ≡ file
        same-file = one-file f file area lies owner

        within-table : IsWithin (pages_of tables f) number → ⊥
        within-table within = ⊎_elim
            (λ (nobody : owner_in (pages_of tables f) number ≡ 0).
            let for = stand.owned (record { file = f; page = number }) (area + 1) is within page-is (inl nobody) x may (omega (arith, is-area, some)) in
            absurd (omega (arith, for, is-area)))
            (λ (other : owner_in (pages_of tables f) number ≢ 0).
            let for = stand.owned (record { file = f; page = number }) (owner_in (pages_of tables f) number) is within page-is (inr refl) x may (omega (arith, is-area, some)) in
            none number (subst (λ (n : ℕ). IsWithin (pages_of tables n) number) same-file within) (ap (λ (n : ℕ). owner_in (pages_of tables n) number) (sym same-file) ∙ (sym for ∙ is-area)))
            (nat_cases (owner_in (pages_of tables f) number) 0)

        by : (b : Bool) → nat_le number (length (pages_of tables f)) ≡ b → ⊥
        by true inside = within-table (record { first = page-is.is_page.first; last = leb-true number (length (pages_of tables f)) inside })
        by false out =
            let over = leb-false number (length (pages_of tables f)) out in
            let limit = ap (λ l. l.pages) (same_limits v g facts) in
            let at = long f in
            let first = page-is.is_page.first in
            let last = page-is.is_page.last in
            let zero = zeros-owner f _ (facts.facts.pages.past f (number - 1) x is (omega (arith, over, limit, at, first)) (omega (arith, first, last)) may) in
            omega (arith, zero, is-area, some)

  module _ (kept : Tables) (page class : ℕ) (new : IsNew (pages_of tables file) page) (takes : TakesIn file page area class tables kept) where
    -- a page is the one that was taken, or is kept of as before
    abbrev IsTakenOne : ℕ → ℕ → Type 0
    IsTakenOne f p = (f ≡ file) × (p ≡ page) × (use_of (pages_of kept f) p ≡ empty_of area class)

    abbrev IsAsBefore : ℕ → ℕ → Type 0
    IsAsBefore f p = (use_of (pages_of kept f) p ≡ use_of (pages_of tables f) p) × IsWithin (pages_of tables f) p

    either : (f p : ℕ) → IsWithin (pages_of kept f) p → IsTakenOne f p ⊎ IsAsBefore f p
    either f p within = by (f == file) refl (p == page) refl
      where
        in-file : f ≡ file → p ≢ page → IsAsBefore f p
        in-file same apart = (
          subst (λ (n : ℕ). use_of (pages_of kept n) p ≡ use_of (pages_of tables n) p) (sym same) (takes.here.others p within.first apart),
          record {
            first = within.first;
            last = let last : p ≤ length (pages_of kept file) = subst (λ (n : ℕ). p ≤ length (pages_of kept n)) same within.last in
                subst (λ (n : ℕ). p ≤ length (pages_of tables n)) (sym same) (subst (λ (n : ℕ). p ≤ n) takes.here.long last);
          },
        )

        by : (a : Bool) → (f == file) ≡ a → (b : Bool) → (p == page) ≡ b → IsTakenOne f p ⊎ IsAsBefore f p
        by true same true here =
            let e = eqb-true f file same in
            let at = eqb-true p page here in
            inl (e, at, (λ i. use_of (pages_of kept (e i)) (at i)) ∙ takes.here.here)
        by true same false away = inr (in-file (eqb-true f file same) (eqb-false p page away))
        by false apart b is =
            let e = takes.others f (eqb-false f file apart) in
            inr (ap (λ (ps : Pages). use_of ps p) e, subst (λ (ps : Pages). IsWithin ps p) e within)

    committed-behind : (f : ℕ) → IsAreaFile f → HasCommitted (pages_of kept f) f g.base.lines
    committed-behind f is = by (f == file) refl
      where
        by : (a : Bool) → (f == file) ≡ a → HasCommitted (pages_of kept f) f g.base.lines
        by true same = subst (λ (n : ℕ). HasCommitted (pages_of kept n) n g.base.lines) (sym (eqb-true f file same))
            (taken_behind (pages_of tables file) (pages_of kept file) file g.base.lines page area class (stand.committed file (file-of file area owner)) new.first new.free takes.here)
        by false apart = subst (λ (ps : Pages). HasCommitted ps f g.base.lines) (sym (takes.others f (eqb-false f file apart))) (stand.committed f is)

    owned-behind : (place : Place) (a : ℕ) → IsAreaFile place.file → IsWithin (pages_of kept place.file) place.page → IsDataPage place.page
        → (owner_in (pages_of kept place.file) place.page ≡ 0) ⊎ (owner_in (pages_of kept place.file) place.page ≡ a) → IsForArea (Pending v) place a
    owned-behind place a is within plain whose = by (either place.file place.page within)
      where
        by : IsTakenOne place.file place.page ⊎ IsAsBefore place.file place.page → IsForArea (Pending v) place a
        by (inl (f, p, has)) = stand.owned place a is (record { first = within.first; last = subst (λ (n : ℕ). place.page ≤ length (pages_of tables n)) (sym f) (subst (λ (m : ℕ). m ≤ length (pages_of tables file)) (sym p) new.within) }) plain (inl ((λ i. owner_in (pages_of tables (f i)) (p i)) ∙ new.free))
        by (inr (has, before)) = stand.owned place a is before plain (⊎_elim (λ (none : owner_in (pages_of kept place.file) place.page ≡ 0). inl (sym (ap (λ (u : PageUse). u.owner) has) ∙ none)) (λ (its : owner_in (pages_of kept place.file) place.page ≡ a). inr (sym (ap (λ (u : PageUse). u.owner) has) ∙ its)) whose)

    stand-with : (classes : ℕ → ℕ) → HaveTheirClasses classes (Pending v) → class ≡ classes area
        → ((f p : ℕ) → IsWithin (pages_of tables f) p → IsOwner f (owner_in (pages_of tables f) p) → class_in (pages_of tables f) p ≡ classes (owner_in (pages_of tables f) p))
        → TablesStand v g kept
    stand-with classes lie at others = record {
      committed = committed-behind;
      classes = classes;
      lie = lie;
      class = λ f p within whose. by f p whose (either f p within);
      owned = owned-behind;
    }
      where
        by : (f p : ℕ) → IsOwner f (owner_in (pages_of kept f) p) → IsTakenOne f p ⊎ IsAsBefore f p → class_in (pages_of kept f) p ≡ classes (owner_in (pages_of kept f) p)
        by f p whose (inl (file-is, page-is, has)) = ap (λ (u : PageUse). u.class) has ∙ (at ∙ ap classes (sym (ap (λ (u : PageUse). u.owner) has)))
        by f p whose (inr (has, before)) =
            let same = ap (λ (u : PageUse). u.owner) has in
            ap (λ (u : PageUse). u.class) has ∙ (others f p before (subst (λ (n : ℕ). IsOwner f n) same whose) ∙ ap classes (sym same))

    -- the area's pages have this class already
    pub stand-as : IsClassOf (pages_of tables file) area class → TablesStand v g kept
    stand-as is = stand-with stand.classes stand.lie
        (sym is.is ∙ (stand.class file is.page is.within (subst (λ (n : ℕ). IsOwner file n) (sym is.owner) owner) ∙ ap stand.classes is.owner))
        stand.class

    -- the area has no page yet, and begins with this class
    module _ (long : (f : ℕ) → length (pages_of tables f) ≡ g.base.limits.pages) (none : HasNoOwned (pages_of tables file) area) where
      abbrev with-class : ℕ → ℕ
      with-class a = cond (a == area) class (stand.classes a)

      pub stand-anew : TablesStand v g kept
      stand-anew = stand-with with-class lie (sym (ap (λ (b : Bool). cond b class (stand.classes area)) (itself area))) others
        where
          lie : HaveTheirClasses with-class (Pending v)
          lie f number x is page-is may some = by (owner_at x == area) refl
            where
              by : (b : Bool) → (owner_at x == area) ≡ b → class_at x ≡ with-class (owner_at x)
              by true same = absurd (no-page long none f number x is page-is may (eqb-true _ _ same))
              by false apart = stand.lie f number x is page-is may some ∙ sym (ap (λ (b : Bool). cond b class (stand.classes (owner_at x))) apart)

          others : (f p : ℕ) → IsWithin (pages_of tables f) p → IsOwner f (owner_in (pages_of tables f) p) → class_in (pages_of tables f) p ≡ with-class (owner_in (pages_of tables f) p)
          others f p within whose = by (owner_in (pages_of tables f) p == area) refl
            where
              by : (b : Bool) → (owner_in (pages_of tables f) p == area) ≡ b → class_in (pages_of tables f) p ≡ with-class (owner_in (pages_of tables f) p)
              by true same =
                  let is = eqb-true _ _ same in
                  let f-is = one-file f file area (subst (λ (n : ℕ). IsOwner f n) is whose) owner in
                  absurd (none p (subst (λ (n : ℕ). IsWithin (pages_of tables n) p) f-is within) (ap (λ (n : ℕ). owner_in (pages_of tables n) p) (sym f-is) ∙ is))
              by false apart = stand.class f p within whose ∙ sym (ap (λ (b : Bool). cond b class (stand.classes (owner_in (pages_of tables f) p))) apart)
