use Rattle.std.proofs.Common.{◌≡◌, ℕ, ◌+◌, ◌-◌, ◌≤◌, [], length, take, drop, sym, ap, ◌∙◌, arith}
use borrow.Rule.Slice.PartMut.{post_of}
use Rattle.std.proofs.lemmas.List.{length-take-le, length-append, length-drop}
use Rattle.figures.specs.Catching.{due, stretch, carry_after}
use Rattle.tables.specs.Rows.{rows}
use Rattle.aggregates.specs.Writing.{all_rewritten, figure_taken}
use Rattle.aggregates.proofs.Rewriting.{all_unchanged}
use Rattle.aggregates.proofs.Splitting.{length_stretch, taken_none, carry_part, written_part}
use Rattle.aggregates.proofs.catching.Turn.catch_up_figure.Goals as goal

pub loop-rank-preserved : goal.loop-rank-preserved
loop-rank-preserved g c =
    let m = g.F.Figure in
    let f = c.args.figure.now in
    let first = c.kept-kept.result.first in
    let cells = c.args.self.now.cells.now in
    let k = c.loop-rank.next in
    let i = c.loop-rank.rank in
    let n = c.min-count.result in
    let end = c.due_rows-end.result in
    let os = c.catch_up-next.new.results in
    let room : c.min-count.result ≤ length c.loop-rank.results = omega (arith, c.min-count.ensures, c.loop-rank.invariant.2) in
    let long = length-take-le n c.loop-rank.results room in
    let part : c.min-count.result ≤ c.due_rows-end.result - c.loop-rank.rank = omega (arith, c.min-count.ensures) in
    let carry : c.catch_up-next.result ≡ carry_after m f k first cells i n = c.catch_up-next.ensures.carry ∙ ap (λ r. carry_after m f k first r i (length (take n c.loop-rank.results))) c.kept-kept.ensures.rows ∙ ap (carry_after m f k first cells i) long in
    let results : os ≡ stretch m f k first cells i n = c.catch_up-next.ensures.results ∙ ap (λ r. stretch m f k first r i (length (take n c.loop-rank.results))) c.kept-kept.ensures.rows ∙ ap (stretch m f k first cells i) long in
    let many : length os ≡ n = ap length results ∙ length_stretch m f first cells k i n in (
      carry_part m f first cells k c.catch_up-next.result i n end part carry ∙ c.loop-rank.invariant.0,
      written_part m f first cells k c.catch_up-next.result i n end part carry c.args.self.now.place c.args.number os (rows c.loop-rank.waiting) (rows c.write_results.new.waiting) results c.write_results.ensures
          ∙ c.loop-rank.invariant.1,
      length-append os (post_of 0 n c.loop-rank.results) ∙ (let e : length c.catch_up-next.new.results + length (drop c.min-count.result c.loop-rank.results) ≡ 512 = omega (arith, many, length-drop n c.loop-rank.results, c.loop-rank.invariant.2) in e),
    )

pub returns : goal.returns
returns g c =
    let m = g.F.Figure in
    let f = c.args.figure.now in
    let first = c.kept-kept.result.first in
    let cells = c.args.self.now.cells.now in
    let a = m.ahead f in
    let none : c.due_rows-end.result - c.loop-rank.rank ≡ 0 = omega (arith, c.loop-rank-test.false) in
    let end : c.due_rows-end.result ≡ due c.args.self.now.entry.rows c.args.self.now.entry.ended a = c.due_rows-end.ensures.value ∙ ap (due c.args.self.now.entry.rows c.args.self.now.entry.ended) c.after-after.ensures in
    let from : c.due_rows-rank.result ≡ c.args.self.now.entry.progress.rows - a = c.due_rows-rank.ensures.value ∙ ap (λ b. c.args.self.now.entry.progress.rows - b) c.after-after.ensures in
    let many : c.due_rows-end.result - c.due_rows-rank.result ≡ due c.args.self.now.entry.rows c.args.self.now.entry.ended a - (c.args.self.now.entry.progress.rows - a) = ap (λ e. e - c.due_rows-rank.result) end ∙ ap (λ b. due c.args.self.now.entry.rows c.args.self.now.entry.ended a - b) from in
    let low : ℕ = c.args.self.now.entry.rows - length cells in
    let start : ℕ = c.args.self.now.entry.progress.rows - a in
    let p = c.args.self.now.place in
    let j = c.args.number in
    let k = c.loop-rank.next in
    let i = c.loop-rank.rank in
    let begin = c.due_rows-rank.result in
    let left = c.due_rows-end.result - c.due_rows-rank.result in
    let ws = rows c.args.waiting.now in
    record {
      carry = ap (carry_after m f k first cells i) (sym none)
          ∙ c.loop-rank.invariant.0
          ∙ ap (λ x. carry_after m f c.args.carry x cells begin left) c.kept-kept.ensures.first
          ∙ ap (λ x. carry_after m f c.args.carry low cells x left) from
          ∙ ap (carry_after m f c.args.carry low cells start) many;
      waiting = sym (all_unchanged p (figure_taken j [] i) (taken_none j i) (rows c.loop-rank.waiting))
          ∙ ap (λ x. all_rewritten p (figure_taken j (stretch m f k first cells i x) i) (rows c.loop-rank.waiting)) (sym none)
          ∙ c.loop-rank.invariant.1
          ∙ ap (λ x. all_rewritten p (figure_taken j (stretch m f c.args.carry x cells begin left) begin) ws) c.kept-kept.ensures.first
          ∙ ap (λ x. all_rewritten p (figure_taken j (stretch m f c.args.carry low cells x left) x) ws) from
          ∙ ap (λ x. all_rewritten p (figure_taken j (stretch m f c.args.carry low cells start x) start) ws) many;
    }
