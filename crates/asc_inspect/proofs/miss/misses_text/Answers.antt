-- One text behind the other.
use Rattle.asc_inspect.proofs.miss.misses_text.Goals as goal

pub returns : goal.returns
returns c = record {
  last_text = c.in_ok-text.text.items;
  stride_text = c.in_ok-by_stride.by_stride.items;
  by_last = c.in_ok-text.ensures;
  by_stride = c.in_ok-by_stride.ensures;
  whole = (let put = c.in_ok-extend_from_slice.ensures.items in let slice = c.deref.ensures.value in cc);
}
