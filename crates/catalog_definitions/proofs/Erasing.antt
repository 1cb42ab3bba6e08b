-- The catalog's lines where some are erased.
use Rattle.std.proofs.Common.{◌≡◌, ℕ, Bool, true, false, cond, not, ◌==◌, List, [], ◌∷◌, None, refl, sym, ap, subst, ◌∙◌}
use Rattle.std.specs.Prelude.{◌||◌}
use Rattle.std.specs.List.{AllByRecursion, filter, list_any}
use Rattle.std.proofs.lemmas.List.Elements.{All-from_recursion, recursion_from_All}
use Rattle.std.specs.Ordering.{is_eq}
use Rattle.std.specs.Cmp.{tied_itself}
use Rattle.rdb_types.specs.declared.keys.Dbkey.{Dbkey}
use Rattle.rdb_types.specs.Order.{dbkey_order}
use Rattle.rdb_types.specs.OrderLaws.{same_dbkey, dbkey_total}
use Rattle.line_view.specs.Knowledge.{Lines, line_in, lines_in, keys_of, laid}
use Rattle.line_view.proofs.FullMap.{laid_found}
use Rattle.line_view.specs.Writes.{laid_all}
use Rattle.catalog_lines.specs.declared.line.CatalogLine.{CatalogLine}
use Rattle.catalog_lines.specs.Lines.{IsCatalogLine}
use Rattle.catalog_lines.proofs.Lines.{one_line}
use Rattle.catalog.specs.declared.directory.PlacedLine.{PlacedLine}
use Rattle.catalog.specs.Deletions.{keys_where}
use Rattle.catalog.specs.Reading.{catalog_area, line_keys, IsPresent, AreCatalogLines}
use Rattle.catalog_definitions.specs.Leaving.{erasures}
use Rattle.catalog_definitions.proofs.Puts.{untied_back}
use Rattle.catalog_definitions.proofs.Basics.{equal, or_true}

-- one of the keys is this one
abbrev pub is_among : List Dbkey → Dbkey → Bool
is_among keys key = list_any (λ k. is_eq (dbkey_order k key)) keys

-- ---- filters

keep_all : {X : Type 0} (xs : List X) → filter (λ x. not false) xs ≡ xs
keep_all [] = refl
keep_all (x ∷ xs) = ap (λ l. x ∷ l) (keep_all xs)

filter_twice : {X : Type 0} (p q : X → Bool) (xs : List X) → filter (λ x. not (q x)) (filter (λ x. not (p x)) xs) ≡ filter (λ x. not (p x || q x)) xs
filter_twice p q [] = refl
filter_twice p q (x ∷ xs) =
    let rest = filter_twice p q xs in
    let left = filter (λ x. not (p x)) xs in
    let both = filter (λ x. not (p x || q x)) xs in
    elim (p x) as (λ b. filter (λ x. not (q x)) (cond (not b) (x ∷ left) left) ≡ cond (not (b || q x)) (x ∷ both) both) [
      | true ↦ rest
      | false ↦ ap (λ l. cond (not (q x)) (x ∷ l) l) rest
    ]

keys_kept : (p : Dbkey → Bool) (a : ℕ) (lines : Lines) → keys_of (lines_in a (filter (λ e. not (p e.0)) lines)) ≡ filter (λ k. not (p k)) (keys_of (lines_in a lines))
keys_kept p a [] = refl
keys_kept p a (e ∷ es) =
    let rest = keys_kept p a es in
    let left = filter (λ e. not (p e.0)) es in
    let keys = filter (λ k. not (p k)) (keys_of (lines_in a es)) in
    elim (e.0.area == a) as (λ b. e.0.area == a ≡ b → keys_of (lines_in a (cond (not (p e.0)) (e ∷ left) left)) ≡ filter (λ k. not (p k)) (keys_of (cond b (e ∷ lines_in a es) (lines_in a es)))) [
      | true ↦ λ own. elim (p e.0) as (λ b. keys_of (lines_in a (cond (not b) (e ∷ left) left)) ≡ cond (not b) (e.0 ∷ keys) keys) [
        | true ↦ rest
        | false ↦ ap (λ b. keys_of (cond b (e ∷ lines_in a left) (lines_in a left))) own ∙ ap (λ l. e.0 ∷ l) rest
      ]
      | false ↦ λ own. elim (p e.0) as (λ b. keys_of (lines_in a (cond (not b) (e ∷ left) left)) ≡ keys) [
        | true ↦ rest
        | false ↦ ap (λ b. keys_of (cond b (e ∷ lines_in a left) (lines_in a left))) own ∙ rest
      ]
    ] refl

keys_left : (keys : List Dbkey) (a : ℕ) (lines : Lines) → keys_of (lines_in a (laid_all (erasures keys) lines)) ≡ filter (λ k. not (is_among keys k)) (keys_of (lines_in a lines))
keys_left [] a lines = sym (keep_all (keys_of (lines_in a lines)))
keys_left (k ∷ keys) a lines =
    keys_left keys a (laid k None lines)
    ∙ ap (filter (λ x. not (is_among keys x))) (keys_kept (λ x. is_eq (dbkey_order k x)) a lines)
    ∙ filter_twice (λ x. is_eq (dbkey_order k x)) (is_among keys) (keys_of (lines_in a lines))

neither : (a b : Bool) → (a || b) ≡ false → (a ≡ false) × (b ≡ false)
neither true b h = let bad : ⊥ = cc in absurd bad
neither false b h = (refl, h)

line_left : (keys : List Dbkey) (q : Dbkey) (lines : Lines) → is_among keys q ≡ false → line_in q (laid_all (erasures keys) lines) ≡ line_in q lines
line_left [] q lines other = refl
line_left (k ∷ keys) q lines other =
    let parts = neither (is_eq (dbkey_order k q)) (is_among keys q) other in
    line_left keys q (laid k None lines) parts.1
    ∙ laid_found q k None lines
    ∙ ap (λ b. cond b None (line_in q lines)) (untied_back dbkey_order dbkey_total k q parts.0)

-- ---- which lines go

-- a line goes where its key is among those of the lines that go
pub same_there : (all : Lines) (p q : PlacedLine) → IsPresent all p → IsPresent all q → is_eq (dbkey_order p.key q.key) ≡ true → p.line ≡ q.line
same_there all p q is too tie =
    let key : p.key ≡ q.key = same_dbkey p.key q.key (equal (dbkey_order p.key q.key) tie) in
    let there = ap (λ k. line_in k all) key in
    let one = is.present in
    let two = too.present in
    let image : is.image ≡ too.image = cc in
    one_line too.image p.line q.line (subst (λ bytes. IsCatalogLine bytes p.line) image is.decodes) too.decodes

stays : (all : Lines) (holds : CatalogLine → Bool) (q : PlacedLine) → IsPresent all q → holds q.line ≡ false → (ps : List PlacedLine) → AllByRecursion (IsPresent all) ps → is_among (keys_where holds ps) q.key ≡ false
stays all holds q is isnt [] each = refl
stays all holds q is isnt (p ∷ ps) each =
    let rest = stays all holds q is isnt ps each.1 in
    elim (holds p.line) as (λ b. holds p.line ≡ b → is_among (line_keys (cond b (p ∷ filter (λ p. holds p.line) ps) (filter (λ p. holds p.line) ps))) q.key ≡ false) [
      | true ↦ λ does.
          let apart : is_eq (dbkey_order p.key q.key) ≡ false =
          elim (is_eq (dbkey_order p.key q.key)) as (λ b. is_eq (dbkey_order p.key q.key) ≡ b → b ≡ false) [
            | true ↦ λ tie. let moved = ap holds (same_there all p q each.0 is tie) in let bad : ⊥ = cc in absurd bad
            | false ↦ λ _. refl
          ] refl in
          ap (λ b. b || is_among (keys_where holds ps) q.key) apart ∙ rest
      | false ↦ λ isnt. rest
    ] refl

abbrev Goes : (CatalogLine → Bool) → List Dbkey → PlacedLine → Type 0
Goes holds keys p = holds p.line ≡ true → is_among keys p.key ≡ true

more_go : (holds : CatalogLine → Bool) (keys : List Dbkey) (k : Dbkey) (ps : List PlacedLine) → AllByRecursion (Goes holds keys) ps → AllByRecursion (Goes holds (k ∷ keys)) ps
more_go holds keys k [] each = tt
more_go holds keys k (p ∷ ps) each = (λ does. ap (λ b. is_eq (dbkey_order k p.key) || b) (each.0 does) ∙ or_true (is_eq (dbkey_order k p.key)), more_go holds keys k ps each.1)

all_go : (holds : CatalogLine → Bool) (ps : List PlacedLine) → AllByRecursion (Goes holds (keys_where holds ps)) ps
all_go holds [] = tt
all_go holds (p ∷ ps) =
    let rest = all_go holds ps in
    elim (holds p.line) as (λ b. holds p.line ≡ b → AllByRecursion (Goes holds (line_keys (cond b (p ∷ filter (λ p. holds p.line) ps) (filter (λ p. holds p.line) ps)))) (p ∷ ps)) [
      | true ↦ λ does. (λ _. ap (λ r. is_eq r || is_among (keys_where holds ps) p.key) (tied_itself dbkey_total p.key), more_go holds (keys_where holds ps) p.key ps rest)
      | false ↦ λ isnt. (λ does. (let bad : ⊥ = cc in absurd bad), rest)
    ] refl

decided : (all : Lines) (holds : CatalogLine → Bool) (whole ps : List PlacedLine) → AllByRecursion (IsPresent all) whole → AllByRecursion (IsPresent all) ps → AllByRecursion (Goes holds (keys_where holds whole)) ps → AllByRecursion (λ p. is_among (keys_where holds whole) p.key ≡ holds p.line) ps
decided all holds whole [] are each go = tt
decided all holds whole (p ∷ ps) are each go = (
  elim (holds p.line) as (λ b. holds p.line ≡ b → is_among (keys_where holds whole) p.key ≡ b) [
    | true ↦ λ does. go.0 does
    | false ↦ λ isnt. stays all holds p each.0 isnt whole are
  ] refl,
  decided all holds whole ps are each.1 go.1,
)

-- the lines that stay
abbrev pub kept : (CatalogLine → Bool) → List PlacedLine → List PlacedLine
kept holds = filter (λ p. not (holds p.line))

keys_alike : (holds : CatalogLine → Bool) (keys : List Dbkey) (ps : List PlacedLine) → AllByRecursion (λ p. is_among keys p.key ≡ holds p.line) ps → line_keys (kept holds ps) ≡ filter (λ k. not (is_among keys k)) (line_keys ps)
keys_alike holds keys [] each = refl
keys_alike holds keys (p ∷ ps) each =
    let rest = keys_alike holds keys ps each.1 in
    let left = filter (λ k. not (is_among keys k)) (line_keys ps) in
    elim (holds p.line) as (λ b. is_among keys p.key ≡ b → line_keys (cond (not b) (p ∷ kept holds ps) (kept holds ps)) ≡ cond (not (is_among keys p.key)) (p.key ∷ left) left) [
      | true ↦ λ is. rest ∙ sym (ap (λ b. cond (not b) (p.key ∷ left) left) is)
      | false ↦ λ is. ap (λ l. p.key ∷ l) rest ∙ sym (ap (λ b. cond (not b) (p.key ∷ left) left) is)
    ] each.0

lines_left : (all : Lines) (holds : CatalogLine → Bool) (keys : List Dbkey) (ps : List PlacedLine) → AllByRecursion (IsPresent all) ps → AllByRecursion (λ p. is_among keys p.key ≡ holds p.line) ps → AllByRecursion (IsPresent (laid_all (erasures keys) all)) (kept holds ps)
lines_left all holds keys [] each decides = tt
lines_left all holds keys (p ∷ ps) each decides =
    let rest = lines_left all holds keys ps each.1 decides.1 in
    elim (holds p.line) as (λ b. is_among keys p.key ≡ b → AllByRecursion (IsPresent (laid_all (erasures keys) all)) (cond (not b) (p ∷ kept holds ps) (kept holds ps))) [
      | true ↦ λ is. rest
      | false ↦ λ is. (record { image = each.0.image; present = line_left keys p.key all is ∙ each.0.present; decodes = each.0.decodes }, rest)
    ] decides.0

pub erased_lines : (all : Lines) (holds : CatalogLine → Bool) (ps : List PlacedLine) → AreCatalogLines all ps → AreCatalogLines (laid_all (erasures (keys_where holds ps)) all) (kept holds ps)
erased_lines all holds ps are =
    let each = recursion_from_All (IsPresent all) ps are.images in
    let keys = keys_where holds ps in
    let decides = decided all holds ps ps each each (all_go holds ps) in
    record {
      keys = keys_alike holds keys ps decides ∙ ap (filter (λ k. not (is_among keys k))) are.keys ∙ sym (keys_left keys catalog_area all);
      images = All-from_recursion (IsPresent (laid_all (erasures keys) all)) (kept holds ps) (lines_left all holds keys ps each decides);
    }
