-- The relations of a catalog, and those of its tables, which have their rows.
use Rattle.std.proofs.Common.{◌≡◌, ◌==◌, ℕ, Bool, true, false, cond, List, [], ◌∷◌, Option, Some, None, refl, sym, ap, subst, ◌∙◌}
use Rattle.std.specs.Prelude.{is_some}
use Rattle.rdo_ast.specs.Tree.{Name}
use Rattle.rdb_meaning.specs.declared.tables.Relation.{Relation as Rows}
use Rattle.rdb_meaning.specs.Contents.{fields_of}
use Rattle.line_view.specs.Knowledge.{Lines}
use Rattle.relation_rows.specs.Relations.{HasRows}
use Rattle.sound_lines.specs.Contents.{HaveRows}
use Rattle.sound_lines.specs.Sound.{relation_in}
use Rattle.verified_lines.specs.Relations.{stored_entry, entry_in}

-- one without rows goes with one that has its rows
abbrev pub Matches : Lines → List (Name × ℕ) → Option (Name × Rows) → Option Rows → Type 0
Matches all versions (Some e) (Some w) = HasRows all (stored_entry versions e) w
Matches all versions (Some e) None = ⊥
Matches all versions None (Some w) = ⊥
Matches all versions None None = Unit {0}

module _ (all : Lines) (versions : List (Name × ℕ)) (area : ℕ) where
  pub matches : (bs ws : List (Name × Rows)) → HaveRows all versions bs ws → Matches all versions (entry_in area bs) (relation_in area ws)
  matches [] [] have = tt
  matches [] (w ∷ ws) have = absurd have
  matches (b ∷ bs) [] have = absurd have
  matches (b ∷ bs) (w ∷ ws) have =
      let same : (b.1.area == area) ≡ (w.1.area == area) = ap (λ (n : ℕ). n == area) have.1.area in
      elim (b.1.area == area) as (λ x. (b.1.area == area) ≡ x → Matches all versions (cond x (Some b) (entry_in area bs)) (cond (w.1.area == area) (Some w.1) (relation_in area ws))) [
        | true ↦ λ is. subst (λ (x : Bool). Matches all versions (Some b) (cond x (Some w.1) (relation_in area ws))) (sym is ∙ same) have.1
        | false ↦ λ isnt. subst (λ (x : Bool). Matches all versions (entry_in area bs) (cond x (Some w.1) (relation_in area ws))) (sym isnt ∙ same) (matches bs ws have.2)
      ] refl

  pub fields_alike : (bs ws : List (Name × Rows)) → HaveRows all versions bs ws → fields_of (relation_in area bs) ≡ fields_of (relation_in area ws)
  fields_alike [] [] have = refl
  fields_alike [] (w ∷ ws) have = absurd have
  fields_alike (b ∷ bs) [] have = absurd have
  fields_alike (b ∷ bs) (w ∷ ws) have =
      ap (λ (n : ℕ). fields_of (cond (n == area) (Some b.1) (relation_in area bs))) have.1.area
      ∙ elim (w.1.area == area) as (λ x. fields_of (cond x (Some b.1) (relation_in area bs)) ≡ fields_of (cond x (Some w.1) (relation_in area ws))) [
        | true ↦ have.1.fields
        | false ↦ fields_alike bs ws have.2
      ]

  pub somes_alike : (bs ws : List (Name × Rows)) → HaveRows all versions bs ws → is_some (relation_in area bs) ≡ is_some (relation_in area ws)
  somes_alike [] [] have = refl
  somes_alike [] (w ∷ ws) have = absurd have
  somes_alike (b ∷ bs) [] have = absurd have
  somes_alike (b ∷ bs) (w ∷ ws) have =
      ap (λ (n : ℕ). is_some (cond (n == area) (Some b.1) (relation_in area bs))) have.1.area
      ∙ elim (w.1.area == area) as (λ x. is_some (cond x (Some b.1) (relation_in area bs)) ≡ is_some (cond x (Some w.1) (relation_in area ws))) [
        | true ↦ refl
        | false ↦ somes_alike bs ws have.2
      ]
