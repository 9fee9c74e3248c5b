use Rattle.std.proofs.Common.{ℕ, ◌+◌, ◌*◌, ◌∷◌, length, drop, sym, ap, ◌∙◌, arith}
use Rattle.asc_elf.specs.File.{Header, header_at, headers}
use Rattle.asc_elf.proofs.Headers.{drop-headers, headers_end}
use Rattle.asc_elf.proofs.table.HeadersLeftIterator.next.Goals as goal

-- the header that is yielded, and those that are left
pub returns-then-self-e_phnum-clause-steps : goal.returns-then-self-e_phnum-clause-steps
returns-then-self-e_phnum-clause-steps c =
    let file = c.self.inside.file.now in
    let next = c.self.inside.next in
    let header = c.at.ensures ∙ ap (λ (n : ℕ). header_at file (n + 32 * next)) c.e_phoff.ensures in
    sym c.self.view_is ∙ drop-headers file next (omega arith) ∙ ap (λ (h : Header). h ∷ drop (next + 1) (headers file)) (sym header)

pub returns-then-self-e_phnum-clause-goes : goal.returns-then-self-e_phnum-clause-goes
returns-then-self-e_phnum-clause-goes c =
    record { on = λ _. (tt, tt, omega (arith, ap length (returns-then-self-e_phnum-clause-steps c))); keeps = tt; rests = λ _. tt }

pub returns-else-self-e_phnum-clause-steps : goal.returns-else-self-e_phnum-clause-steps
returns-else-self-e_phnum-clause-steps c =
    let none = sym c.self.view_is ∙ headers_end c.self.inside.file.now c.self.inside.next (omega arith) in (none, none)
