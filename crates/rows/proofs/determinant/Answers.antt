-- `rows::determinant` meets its contract: along the last row it is the same determinant. Assumes nothing.
use Rattle.std.proofs.Common.{◌∙◌, w64}
use Rattle.whole.specs.Machine.{read-exact}
use Rattle.space.specs.Algebra.{det-last}
use Rattle.rows.proofs.determinant.Goals as goal

pub returns : goal.returns
returns c = read-exact w64 c.dot.ensures tt ∙ rw c.cross.ensures.exact.is (det-last _ _ _)
