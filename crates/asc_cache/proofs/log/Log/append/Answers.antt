use Rattle.std.proofs.Common.{sym, ap, ◌∙◌}
use Rattle.asc_cache.proofs.Appending.{appends_moves}
use Rattle.asc_cache.proofs.log.Log.append.Goals as goal

pub compare_exchange-found-requires : goal.compare_exchange-found-requires
compare_exchange-found-requires c =
    let self = c.args.self.now in
    let h = self.head_is in
    let same = c.again-whole.ensures in
    let offer = c.plain-offer.ensures in
    let pen = c.no_pen-pen.ensures in
    let book = ap (λ s. s.book) same ∙ sym (ap (λ w. w.book) h) in (
      ap (λ w. w.tracked) h,
      book,
      pen.0 ∙ book,
      offer.0,
      rw (ap (λ w. w.key) h, pen.1, offer.1, offer.3, ap (λ s. s.log) same) (appends_moves self.whole.log c.args.note.now self.count self.counted),
    )
