use Rattle.line_cluster.proofs.cluster.LineCluster.lend.Goals as goal

pub invariant_of-self : goal.invariant_of-self
invariant_of-self g c = rw c.lend_at.ensures c.self.invariant

pub returns : goal.returns
returns g c = record { same = rw c.lend_at.ensures c.self.view_is }
