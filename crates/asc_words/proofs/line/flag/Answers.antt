use Rattle.std.proofs.Common.{◌≡◌, ◌∙◌, ◌||◌, Bool, true, false, codes, refl, ap, sym, List, [], Option, Some}
use Rattle.std.specs.Prelude.{unwrap_or}
use Rattle.std.specs.Str.{bytes_eq}
use Rattle.std.proofs.lemmas.Slice.Eq.{bytes_eq-Decides}
use Rattle.clap.specs.Words.{found_of, rows_of}
use Rattle.clap.specs.Walk.{Row, Text, one_of}
use Rattle.clap.proofs.WalkLemmas.{one_text-rows}
use Rattle.asc_words.specs.Line.{flag_in}
use Rattle.asc_words.specs.Rows.{HasFlag}
use Rattle.asc_words.proofs.line.flag.Goals as goal

-- what a getter gives that tells "true" from "false"
flag_is : (id : Text) (rows : List Row) (given : Bool) → HasFlag id rows → (one_of id rows ≡ Some (codes "true") → given ≡ true) → (one_of id rows ≡ Some (codes "false") → given ≡ false)
    → given ≡ flag_in id rows
flag_is id rows given has on off = go (bytes_eq has.text (codes "true")) (bytes_eq has.text (codes "false")) refl refl has.accepted
  where
    value : flag_in id rows ≡ bytes_eq has.text (codes "true")
    value = ap (λ (o : Option Text). bytes_eq (unwrap_or o []) (codes "true")) has.found

    go : (t f : Bool) → bytes_eq has.text (codes "true") ≡ t → bytes_eq has.text (codes "false") ≡ f → (t || f) ≡ true → given ≡ flag_in id rows
    go true f is other some =
        on (has.found ∙ ap (λ (x : Text). Some x) ((bytes_eq-Decides has.text (codes "true")).0 is)) ∙ sym (value ∙ is)
    go false true is other some =
        off (has.found ∙ ap (λ (x : Text). Some x) ((bytes_eq-Decides has.text (codes "false")).0 other)) ∙ sym (value ∙ is)
    go false false is other some = cc

pub returns : goal.returns
returns c =
    let found = found_of c.args.found.now in
    let id = c.args.id.now in
    flag_is id (rows_of found) c.get_flag.result c.requires
    (λ is. c.get_flag.ensures.value (one_text-rows found id ∙ is))
    (λ is. c.get_flag.ensures.other (one_text-rows found id ∙ is))
