use Rattle.asc_model.proofs.Repeats.{repeated_words_touch_no_new_register}
use Rattle.asc_model.proofs.laws.repeated_words_touch_no_new_register.Goals as goal

pub returns : goal.returns
returns c = repeated_words_touch_no_new_register
