use Rattle.am_cluster_tests.proofs.Table.{of_four, of_three}
use Rattle.am_cluster_tests.proofs.rows.replicas_of_rings.Goals as goal

pub returns-clause-three : goal.returns-clause-three
returns-clause-three c = of_three

pub returns-clause-four : goal.returns-clause-four
returns-clause-four c = of_four
