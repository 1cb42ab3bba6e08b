-- One step through reservations, and through relations in search of an area.
use Rattle.std.proofs.Common.{◌≡◌, ℕ, ◌+◌, ◌<◌, true, cond, List, [], ◌∷◌, map, reverse, length, get_or, take, drop, Some, None, sym, ap, subst, ◌∙◌, arith}
use Rattle.std.proofs.lemmas.Grind.{common_steps}
use Rattle.std.proofs.lemmas.List.{drop_more}
use Rattle.std.proofs.lemmas.List.Sorted.{list_any-IsPermutation, IsPermutation-reverse}
use Rattle.std.specs.List.{list_any}
use Rattle.rdo_ast.specs.declared.syntax.Reservation.{Reservation}
use Rattle.rdo_ast.specs.declared.reply.Reply.TheVariants.{Exists}
use Rattle.rdo_ast.specs.Tree.{Name}
use Rattle.rdb_meaning.specs.declared.tables.Relation.{Relation}
use Rattle.rdb_meaning.specs.declared.tables.Tables.{Tables}
use Rattle.rdb_meaning.specs.Contents.{relation_named}
use Rattle.rdb_meaning.specs.Checks.{Refusal, or_else, needs_some, Use, use_of}
use Rattle.rdb_meaning.specs.Defining.{is_among}
use Rattle.rdb_meaning.specs.Meaning.{reserved_names, uses_of_area}

-- the relations that are reserved
abbrev pub named : List Reservation → List Name
named rs = map (λ r. r.relation) rs

is_among-reverse : (n : Name) (ns : List Name) → is_among n (reverse ns) ≡ is_among n ns
is_among-reverse n ns = sym (list_any-IsPermutation _ ns (reverse ns) (IsPermutation-reverse ns))

reverse-named : (rs : List Reservation) (i : ℕ) (d : Reservation) → i < length rs → reverse (named (take (i + 1) rs)) ≡ (get_or rs i d).relation ∷ reverse (named (take i rs))
reverse-named rs i d lt = grind (arith, common_steps)

-- what is found at a reservation, and then at those behind it
abbrev step : Name → List Name → Refusal → Tables → Refusal
step n before next t =
    or_else (needs_some n (relation_named n t)) (or_else (cond (is_among n before) (Some (Exists n)) None) next)

reserved_names-get : (rs : List Reservation) (i : ℕ) (d : Reservation) (t : Tables) → i < length rs → reserved_names (reverse (named (take i rs))) (drop i rs) t ≡ step (get_or rs i d).relation (named (take i rs)) (reserved_names (reverse (named (take (i + 1) rs))) (drop (i + 1) rs) t) t
reserved_names-get rs i d t lt =
    rw (drop_more rs i d lt, reverse-named rs i d lt, is_among-reverse)

pub reserved_names-at : (rs : List Reservation) (i : ℕ) (x : Reservation) (t : Tables) → i < length rs → x ≡ get_or rs i x → reserved_names (reverse (named (take i rs))) (drop i rs) t ≡ step x.relation (named (take i rs)) (reserved_names (reverse (named (take (i + 1) rs))) (drop (i + 1) rs) t) t
reserved_names-at rs i x t lt is =
    reserved_names-get rs i x t lt
    ∙ ap (λ (y : Reservation). step y.relation (named (take i rs)) (reserved_names (reverse (named (take (i + 1) rs))) (drop (i + 1) rs) t) t) (sym is)

uses_of_area-cons : (area : ℕ) (e : Name × Relation) (es : List (Name × Relation)) → e.1.area ≡ area → uses_of_area area (e ∷ es) ≡ use_of true e.0 ∷ []
uses_of_area-cons area e es same = grind arith

pub uses_of_area-at : (area : ℕ) (es : List (Name × Relation)) (i : ℕ) (e : Name × Relation) → i < length es → e ≡ get_or es i e → e.1.area ≡ area → uses_of_area area (drop i es) ≡ use_of true e.0 ∷ []
uses_of_area-at area es i e lt is same =
    rw (drop_more es i e lt, ← is) (uses_of_area-cons area e (drop (i + 1) es) same)
