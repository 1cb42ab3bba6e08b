use Rattle.std.proofs.Common.{◌∙◌, [], ◌∷◌, Option, None, refl, sym, ap, subst}
use Rattle.std.specs.Prelude.{IfSome, IfNone}
use Rattle.index_node.specs.declared.node.IndexNode.{IndexNode}
use Rattle.index_faults.specs.declared.walk.Walk.{Walk}
use Rattle.index_faults.specs.Walks.{IsReached, IsMissed, IsInOrderWith}
use Rattle.index_faults.proofs.Walked.{in_order, none_then, root_there, no_fault}
use Rattle.index_faults.proofs.walk.walk_index.Goals.{in-Some+in_ok-walk_below, in_default}
use Rattle.index_faults.proofs.walk.walk_index.Goals as goal

pub returns-clause-fine : goal.returns-clause-fine
returns-clause-fine g c =
    let known = g.V.View.knows c.args.view.now in
    let first : Walk = record { area = c.args.root.area; reached = c.new.result; pairs = c.new-2.result; faults = c.new-3.result } in
    elim c.match-branch-2.branch [
      | in-Some+in_ok-walk_below w ↦ λ none all agrees.
          let reached = subst (λ (o : Option IndexNode). IfSome o (λ node. IsReached known c.args.root None node first c.reach.new.walk)) w.in-Some.is c.in_ok-node.ensures.node in
          subst (λ (l : Walk). IsInOrderWith all c.args.root l.pairs) (sym w.walk-is)
          (in_order known all c.args.root w.in-Some.node first c.reach.new.walk w.walk_below.new.walk refl c.new-2.ensures agrees reached w.in_ok-walk_below.ensures (ap (λ (l : Walk). l.faults) (sym w.walk-is) ∙ none))
      | in_default w ↦ λ none all agrees.
          let missed = subst (λ (o : Option IndexNode). IfNone o (IsMissed known c.args.root None first c.reach.new.walk)) w.in_default.is c.in_ok-node.ensures.none in
          absurd (let empty = none_then first.faults (c.args.root ∷ []) (sym missed.fault ∙ ap (λ (l : Walk). l.faults) (sym w.walk-is) ∙ none) in let no : ⊥ = cc in no)
    ]

pub returns-clause-at_fault : goal.returns-clause-at_fault
returns-clause-at_fault g c =
    let known = g.V.View.knows c.args.view.now in
    let first : Walk = record { area = c.args.root.area; reached = c.new.result; pairs = c.new-2.result; faults = c.new-3.result } in
    elim c.match-branch-2.branch [
      | in-Some+in_ok-walk_below w ↦ λ some is all agrees held order.
          let reached = subst (λ (o : Option IndexNode). IfSome o (λ node. IsReached known c.args.root None node first c.reach.new.walk)) w.in-Some.is c.in_ok-node.ensures.node in
          some (ap (λ (l : Walk). l.faults) w.walk-is ∙ no_fault known all c.args.root held first refl c.new.ensures.empty agrees is order w.in-Some.node c.reach.new.walk w.walk_below.new.walk c.new-3.ensures reached w.in_ok-walk_below.ensures)
      | in_default w ↦ λ some is all agrees held order.
          let missed = subst (λ (o : Option IndexNode). IfNone o (IsMissed known c.args.root None first c.reach.new.walk)) w.in_default.is c.in_ok-node.ensures.none in
          root_there known all c.args.root held first refl c.new.ensures.empty agrees is order c.reach.new.walk missed
    ]
