use Rattle.std.proofs.Common.{◌∙◌, sym}
use Rattle.wb_converter.specs.Filter.{IsMadeOf}
use Rattle.wb_converter.proofs.filtering.Filtering.take.Goals as goal

pub returns-clause-value : goal.returns-clause-value
returns-clause-value c = λ f earlier s.
    let k = rw (sym c.self.view_is) at (c.keep.ensures f earlier s) in
    let of : IsMadeOf f c.as_slice.result.now c.value_of.result = rw k.0 at c.value_of.ensures in
    rw (c.as_slice.ensures.value ∙ k.1) at of
