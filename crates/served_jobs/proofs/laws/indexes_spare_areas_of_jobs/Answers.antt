use Rattle.served_jobs.proofs.Spared.{found_spared}
use Rattle.served_jobs.proofs.laws.indexes_spare_areas_of_jobs.Goals as goal

pub returns : goal.returns
returns c = λ a known found all t sound agrees needs served. found_spared a known all t found (needs all t sound agrees) served
