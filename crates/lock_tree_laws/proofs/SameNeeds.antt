-- What `==` of needs tells, and what an open want's need tells.
use Rattle.std.proofs.Common.{◌≡◌, true, false, refl, ◌∙◌, ap, sym}
use Rattle.std.specs.Prelude.{Option, Some, None, option_map, unwrap_or}
use Rattle.std.proofs.lemmas.Bool.{false≢true, and_parts}
use Rattle.rdb_types.specs.declared.node.Node.{Node}
use Rattle.vms_queues.specs.declared.lock_mode.Mode.{Mode}
use Rattle.vms_queues.specs.declared.lock_mode.Mode.TheVariants.{NL, CR, CW, PR, PW, EX}
use Rattle.vms_queues.specs.contracts.lock_mode.ModePartialEq.TheImpl as mode_eq
use Rattle.lock_needs.specs.declared.need.Need.{Need}
use Rattle.lock_needs.specs.declared.party.OpenWant.{OpenWant}
use Rattle.lock_needs.specs.contracts.need.NeedPartialEq.TheImpl as need_eq
use Rattle.lock_needs.specs.Nodes.{same_node}
use Rattle.lock_needs.proofs.NodeLaws.{same_node-true}
use Rattle.lock_tree_laws.specs.Wanted.{IsOf}

same_mode-true : (a b : Mode) → (mode_eq.ghosts).eq a b ≡ true → a ≡ b
same_mode-true NL NL e = refl
same_mode-true CR CR e = refl
same_mode-true CW CW e = refl
same_mode-true PR PR e = refl
same_mode-true PW PW e = refl
same_mode-true EX EX e = refl
same_mode-true a b e = absurd (false≢true e)

pub same_need-true : (v w : Need) → (need_eq.ghosts).eq v w ≡ true → v ≡ w
same_need-true v w e =
    let p = and_parts (same_node v.node w.node) ((mode_eq.ghosts).eq v.mode w.mode) e in
    ap (λ (n : Node). record { node = n; mode = v.mode }) (same_node-true v.node w.node p.0) ∙ ap (λ (m : Mode). record { node = w.node; mode = m }) (same_mode-true v.mode w.mode p.1)

pub wanted-some : (o : Option OpenWant) (need other : Need) → Some other ≡ option_map (λ w. w.need) o → (need_eq.ghosts).eq other need ≡ true → IsOf need o
wanted-some None need other e same = tt
wanted-some (Some w) need other e same = ap (λ (x : Option Need). unwrap_or x need) (sym e) ∙ same_need-true other need same

pub wanted-none : (o : Option OpenWant) (need : Need) → None ≡ option_map (λ w. w.need) o → IsOf need o
wanted-none None need e = tt
wanted-none (Some w) need e = absurd (false≢true (ap (λ (x : Option Need). elim x [ None ↦ false | Some v ↦ true ]) e))
