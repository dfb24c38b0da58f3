use Rattle.std.proofs.Common.{◌≡◌, ◌∙◌, codes}
use Rattle.std.specs.Fmt.{decimal}
use Rattle.ports.proofs.Pieces.{front_more, front_then, ok_then}
use Rattle.program.proofs.ending.write_placed.Goals as goal

pub returns-in_err-write_all-clause-front : goal.returns-in_err-write_all-clause-front
returns-in_err-write_all-clause-front g c = front_more _ _ (codes "qbf: line ") _ c.in_err-write_all.ensures.front

pub returns-in_err-write_all-2-clause-front : goal.returns-in_err-write_all-2-clause-front
returns-in_err-write_all-2-clause-front g c =
    let digits : c.as_bytes.result.now ≡ decimal c.args.line = c.as_bytes.ensures.value ∙ c.format.ensures.text in
    front_then _ _ _ (codes "qbf: line ") _ c.in_ok-write_all.ensures.ok
    (front_more _ _ (decimal c.args.line) _ (rw digits at c.in_err-write_all-2.ensures.front))

pub returns-in_err-write_all-3-clause-front : goal.returns-in_err-write_all-3-clause-front
returns-in_err-write_all-3-clause-front g c =
    let digits : c.as_bytes.result.now ≡ decimal c.args.line = c.as_bytes.ensures.value ∙ c.format.ensures.text in
    let what : c.as_bytes-2.result.now ≡ c.args.what.now = c.as_bytes-2.ensures.value in
    front_then _ _ _ (codes "qbf: line ") _ c.in_ok-write_all.ensures.ok
    (front_then _ _ _ (decimal c.args.line) _ (rw digits at c.in_ok-write_all-2.ensures.ok)
    (front_more _ _ c.args.what.now _ (rw what at c.in_err-write_all-3.ensures.front)))

pub returns-in_err-write_all-4-clause-front : goal.returns-in_err-write_all-4-clause-front
returns-in_err-write_all-4-clause-front g c =
    let digits : c.as_bytes.result.now ≡ decimal c.args.line = c.as_bytes.ensures.value ∙ c.format.ensures.text in
    let what : c.as_bytes-2.result.now ≡ c.args.what.now = c.as_bytes-2.ensures.value in
    let which : c.as_bytes-3.result.now ≡ c.args.which.now = c.as_bytes-3.ensures.value in
    front_then _ _ _ (codes "qbf: line ") _ c.in_ok-write_all.ensures.ok
    (front_then _ _ _ (decimal c.args.line) _ (rw digits at c.in_ok-write_all-2.ensures.ok)
    (front_then _ _ _ c.args.what.now _ (rw what at c.in_ok-write_all-3.ensures.ok)
    (front_more _ _ c.args.which.now _ (rw which at c.in_err-write_all-4.ensures.front))))

pub returns-clause-front : goal.returns-clause-front
returns-clause-front g c =
    let digits : c.as_bytes.result.now ≡ decimal c.args.line = c.as_bytes.ensures.value ∙ c.format.ensures.text in
    let what : c.as_bytes-2.result.now ≡ c.args.what.now = c.as_bytes-2.ensures.value in
    let which : c.as_bytes-3.result.now ≡ c.args.which.now = c.as_bytes-3.ensures.value in
    front_then _ _ _ (codes "qbf: line ") _ c.in_ok-write_all.ensures.ok
    (front_then _ _ _ (decimal c.args.line) _ (rw digits at c.in_ok-write_all-2.ensures.ok)
    (front_then _ _ _ c.args.what.now _ (rw what at c.in_ok-write_all-3.ensures.ok)
    (front_then _ _ _ c.args.which.now _ (rw which at c.in_ok-write_all-4.ensures.ok)
    (c.write_all-5.ensures.front))))

pub returns-clause-ok : goal.returns-clause-ok
returns-clause-ok g c =
    let digits : c.as_bytes.result.now ≡ decimal c.args.line = c.as_bytes.ensures.value ∙ c.format.ensures.text in
    let what : c.as_bytes-2.result.now ≡ c.args.what.now = c.as_bytes-2.ensures.value in
    let which : c.as_bytes-3.result.now ≡ c.args.which.now = c.as_bytes-3.ensures.value in
    ok_then _ _ _ _ (codes "qbf: line ") _ c.in_ok-write_all.ensures.ok
    (ok_then _ _ _ _ (decimal c.args.line) _ (rw digits at c.in_ok-write_all-2.ensures.ok)
    (ok_then _ _ _ _ c.args.what.now _ (rw what at c.in_ok-write_all-3.ensures.ok)
    (ok_then _ _ _ _ c.args.which.now _ (rw which at c.in_ok-write_all-4.ensures.ok) c.write_all-5.ensures.ok)))
