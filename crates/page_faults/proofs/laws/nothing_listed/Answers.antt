use Rattle.page_faults.proofs.Listed.{all_fine}
use Rattle.page_faults.proofs.laws.nothing_listed.Goals as goal

pub returns : goal.returns
returns c = λ image asked none file page low high is_page. all_fine image asked none file page low high is_page.first is_page.last
