-- A word ends within its line. Assumes nothing.
use Rattle.std.proofs.Common.{rules}
use Rattle.text.proofs.WordsFirst.{word_inside}
use Rattle.vectors.proofs.lines.our_line.Goals as goal

pub slice_bounds-read_hex-count : goal.slice_bounds-read_hex-count
slice_bounds-read_hex-count c = let h = word_inside c.args.line.now _ c.first_word-said.ensures in search rules

pub slice_bounds-read_hex-start : goal.slice_bounds-read_hex-start
slice_bounds-read_hex-start c = let h = word_inside c.args.line.now _ c.first_word-said.ensures in search rules
