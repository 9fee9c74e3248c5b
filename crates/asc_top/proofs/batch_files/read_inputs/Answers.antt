-- One input more, or one that was not read.
use Rattle.std.proofs.Common.{◌≡◌, ◌∙◌, ◌<◌, ◌≤◌, ℕ, Bool, true, not, List, [], ◌∷◌, ◌++◌, length, take, drop, suc, append_assoc, arith, sym, ap, subst, is_ok}
use Rattle.std.proofs.lemmas.List.{length-take-le, take_all}
use Rattle.asc_top.specs.BatchRead.{FailsAtInput, ReadsInputs}
use Rattle.asc_top.proofs.ReadFiles.{answered_as}
use Rattle.asc_top.proofs.BatchReads.{ReadSoFar, all_read, fails-file, fails-memory, none_read, one_read, push_taken, split_at, take_upto}
use Rattle.asc_top.proofs.batch_files.read_inputs.Goals as goal

pub loop-number-init : goal.loop-number-init
loop-number-init g c =
    let store = c.args.store.now in
    let files = g.F.Store.files store in
    let asked = g.F.Store.asked store in
    let faults = g.F.Store.faults store in
    subst (λ (inputs : List (List ℕ)). ReadSoFar [] inputs files asked faults files asked faults) (sym c.new-inputs.ensures.items) (none_read files asked faults)

pub returns-in_err-file-clause-failed : goal.returns-in_err-file-clause-failed
returns-in_err-file-clause-failed g c =
    let names = c.args.names.now in
    let number = c.loop-number.number in
    let name = c.index-names-number.result in
    let store = c.args.store.now in
    let between = c.loop-number.store in
    let last = c.file_of.new.store in
    let answered = c.in_err-file.field-0.0 in
    let within : number < length names = c.loop-number-test.true in
    let count : length (take number names) ≡ number = length-take-le number names (let most : number ≤ length names = omega arith in most) in
    answered_as c.from_residual.result answered
    (λ answer. FailsAtInput names answer (g.F.Store.files store) (g.F.Store.asked store) (g.F.Store.faults store) (g.F.Store.files last) (g.F.Store.asked last) (g.F.Store.faults last))
    c.from_residual.ensures.1
    (fails-file (take number names) c.loop-number.inputs.items (g.F.Store.files store) (g.F.Store.files between) (g.F.Store.asked store) (g.F.Store.asked between) (g.F.Store.faults store) (g.F.Store.faults between)
    c.loop-number.invariant name (g.F.Store.files last) (g.F.Store.asked last) (g.F.Store.faults last) answered number (drop (suc number) names) names
    (split_at names number name within c.index-names-number.is) count c.in_err-file.ensures.unread)

pub returns-then-is_err-clause-failed : goal.returns-then-is_err-clause-failed
returns-then-is_err-clause-failed g c =
    let names = c.args.names.now in
    let number = c.loop-number.number in
    let name = c.index-names-number.result in
    let store = c.args.store.now in
    let between = c.loop-number.store in
    let last = c.file_of.new.store in
    let front = take number names in
    let rest = drop (suc number) names in
    let inputs = c.loop-number.inputs.items in
    let content = c.in_ok-file.file.items in
    let read = one_read front inputs (g.F.Store.files store) (g.F.Store.files between) (g.F.Store.asked store) (g.F.Store.asked between) (g.F.Store.faults store) (g.F.Store.faults between)
    c.loop-number.invariant name (g.F.Store.files last) (g.F.Store.asked last) (g.F.Store.faults last) content c.in_ok-file.ensures.read in
    let split : names ≡ (front ++ name ∷ []) ++ rest = split_at names number name c.loop-number-test.true c.index-names-number.is ∙ sym (append_assoc front (name ∷ []) rest) in
    fails-memory (front ++ name ∷ []) (inputs ++ content ∷ []) (g.F.Store.files store) (g.F.Store.files last) (g.F.Store.asked store) (g.F.Store.asked last) (g.F.Store.faults store) (g.F.Store.faults last)
    read rest names split

pub loop-number-preserved : goal.loop-number-preserved
loop-number-preserved g c =
    let names = c.args.names.now in
    let number = c.loop-number.number in
    let name = c.index-names-number.result in
    let store = c.args.store.now in
    let between = c.loop-number.store in
    let last = c.file_of.new.store in
    let front = take number names in
    let inputs = c.loop-number.inputs.items in
    let content = c.in_ok-file.file.items in
    let read = one_read front inputs (g.F.Store.files store) (g.F.Store.files between) (g.F.Store.asked store) (g.F.Store.asked between) (g.F.Store.faults store) (g.F.Store.faults between)
    c.loop-number.invariant name (g.F.Store.files last) (g.F.Store.asked last) (g.F.Store.faults last) content c.in_ok-file.ensures.read in
    let taken : is_ok c.push.result ≡ true = c.is_err.ensures.negation ∙ ap (λ (b : Bool). not b) c.if-is_err.false in
    let pushed = push_taken (is_ok c.push.result) inputs c.push.new.self.items c.new.result content c.push.ensures.items taken c.new.ensures in
    subst (λ (l : List (List ℕ)). ReadSoFar l c.push.new.self.items (g.F.Store.files store) (g.F.Store.asked store) (g.F.Store.faults store) (g.F.Store.files last) (g.F.Store.asked last) (g.F.Store.faults last))
    (sym (take_upto names number name c.loop-number-test.true c.index-names-number.is))
    (subst (λ (l : List (List ℕ)). ReadSoFar (front ++ name ∷ []) l (g.F.Store.files store) (g.F.Store.asked store) (g.F.Store.faults store) (g.F.Store.files last) (g.F.Store.asked last) (g.F.Store.faults last))
    (sym pushed) read)

pub returns-clause-read : goal.returns-clause-read
returns-clause-read g c =
    let names = c.args.names.now in
    let number = c.loop-number.number in
    let all : take number names ≡ names = take_all number names (let most : length names ≤ number = omega arith in most) in
    let inputs = c.loop-number.inputs.items in
    let store = c.args.store.now in
    let last = c.loop-number.store in
    subst (λ (l : List (List ℕ)). ReadsInputs l inputs (g.F.Store.files store) (g.F.Store.asked store) (g.F.Store.faults store) (g.F.Store.files last) (g.F.Store.asked last) (g.F.Store.faults last))
    all (all_read (take number names) inputs (g.F.Store.files store) (g.F.Store.files last) (g.F.Store.asked store) (g.F.Store.asked last) (g.F.Store.faults store) (g.F.Store.faults last) c.loop-number.invariant)
