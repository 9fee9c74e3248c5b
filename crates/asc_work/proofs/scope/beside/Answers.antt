use Rattle.std.proofs.Common.{rules}
use Rattle.asc_work.proofs.Posts.{served_at, all_manned}
use Rattle.asc_work.proofs.scope.beside.Goals as goal

pub returns-clause-served : goal.returns-clause-served
returns-clause-served g c =
    let met = c.join_mut-answer.ensures.0.met in
    λ i d l. served_at g.H.Halt.count g.W.Insert.identity c.args.posts.now _ _ i d (search rules) (met.1 i d l)

pub returns-clause-manned : goal.returns-clause-manned
returns-clause-manned g c =
    let met = c.join_mut-answer.ensures.0.met in
    λ queue manned. all_manned g.H.Halt.count g.W.Insert.identity queue c.args.posts.now _ (search rules)
    (λ i d l. served_at g.H.Halt.count g.W.Insert.identity c.args.posts.now _ _ i d (search rules) (met.1 i d l)) manned
