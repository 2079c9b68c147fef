use Rattle.std.proofs.Common.{sym, arith}
use Rattle.std.proofs.lemmas.List.{take_all, length-take-le}
use Rattle.wb_http.proofs.head.front_of.Goals as goal

pub slice_bounds-result-end : goal.slice_bounds-result-end
slice_bounds-result-end c = sym (length-take-le 8192 _ (omega (arith, c.if-bytes-gt-HEAD_LIMIT.true)))

pub returns-else-bytes-gt-HEAD_LIMIT : goal.returns-else-bytes-gt-HEAD_LIMIT
returns-else-bytes-gt-HEAD_LIMIT c = sym (take_all 8192 _ (omega (arith, c.if-bytes-gt-HEAD_LIMIT.false)))
