use Rattle.line_cluster.proofs.cluster.LineCluster.take_back.Goals as goal

pub invariant_of-self : goal.invariant_of-self
invariant_of-self g c = rw c.take_back_at.ensures c.self.invariant

pub returns : goal.returns
returns g c = record { same = rw c.take_back_at.ensures c.self.view_is }
