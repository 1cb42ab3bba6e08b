use Rattle.std.proofs.Common.{ℕ, ◌≤◌, inl, inr, ⊎_elim, subst}
use Rattle.store_shows.proofs.Standing.{may_stand, lasts_with}
use Rattle.store_shows.proofs.laws.what_may_stand_lasts.Goals as goal

pub returns-clause-writes : goal.returns-clause-writes
returns-clause-writes g c = let v = g.D.Disk.view c.args.before.now in let w = g.D.Disk.view c.args.after.now in λ was is old new file slot facts behind shows shown only.
    lasts_with v w old new shows.time (only.leaves c.requires) (may_stand v was old facts shows) (may_stand w is new behind shown)

pub returns-clause-reads : goal.returns-clause-reads
returns-clause-reads g c = let v = g.D.Disk.view c.args.before.now in let w = g.D.Disk.view c.args.after.now in λ was old new facts shows reads. record {
  since = λ t lines le it. ⊎_elim
      (λ left. inl (record { image = it.image; left = left; stands = it.stands }))
      (λ pending. inr (inl (may_stand v was old facts shows it.image lines pending it.stands)))
      ((reads.leaves c.requires).before t it.image (subst (λ (n : ℕ). t ≤ n) shows.time le) it.left);
}

pub returns-clause-still : goal.returns-clause-still
returns-clause-still g c = λ old new. record { since = λ t lines le it. inl it }
