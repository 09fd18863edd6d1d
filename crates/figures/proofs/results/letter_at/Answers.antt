use Rattle.std.proofs.Common.{◌∙◌}
use Rattle.figures.proofs.Meant.{letters_mean}
use Rattle.figures.proofs.Outermost.{extremes_hold}
use Rattle.figures.proofs.results.letter_at.Goals as goal

pub returns : goal.returns
returns c = record {
  value = c.result_at.ensures;
  line = λ within few. c.result_at.ensures ∙ letters_mean c.args.figure.now c.args.rows.now c.args.rank within few c.rows_fit.ensures;
  letters = letters_mean;
  extremes = extremes_hold;
}
