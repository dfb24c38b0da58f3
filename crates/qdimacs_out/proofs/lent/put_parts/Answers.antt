use Rattle.std.proofs.Common.{◌++◌, List, subst, sym}
use Rattle.std.specs.List.{flat_map}
use Rattle.prefix.specs.Literal.{Literal}
use Rattle.prefix.specs.Scopes.{Scope}
use Rattle.truth.specs.declared.formula.Formula.{Formula}
use Rattle.qdimacs_out.specs.declared.lent.Header.{Header}
use Rattle.qdimacs_out.specs.Pieces.{clause_text, scope_text}
use Rattle.qdimacs_out.specs.Texts.{header_line}
use Rattle.blocks.specs.Lines.{line_text}
use Rattle.ports.specs.Writing.{Stops}
use Rattle.blocks.specs.Held.{PassesOn, Puts}
use Rattle.qdimacs_out.proofs.Lines.{text_is}
use Rattle.blocks.proofs.Putting.{part_more, part_then, puts_err, puts_then}
use Rattle.qdimacs_out.proofs.lent.put_parts.Goals as goal

abbrev formula : Header → List Scope → List (List Literal) → Formula
formula header scopes clauses = record {
  prefix = scopes;
  clauses = clauses;
  declared_vars = header.vars;
  declared_clauses = header.clauses;
}

pub returns-in_err-put_line : goal.returns-in_err-put_line
returns-in_err-put_line g c =
    let f = formula c.args.header c.args.prefix.now c.args.matrix.now in
    let header = line_text (header_line f.declared_vars f.declared_clauses) in
    let rest = flat_map scope_text f.prefix ++ flat_map clause_text f.clauses in
    subst (λ t. Puts g.S.Sink.written g.S.Sink.flushed g.S.Sink.faults g.S.Sink.has_room c.args.sink.now
    c.args.block.now
    c.put_line.new.sink c.put_line.new.self t c.from_residual.result) (sym (text_is f))
    (puts_err g.S.Sink.written g.S.Sink.flushed g.S.Sink.faults g.S.Sink.has_room _ c.from_residual.result
    c.args.sink.now c.args.block.now c.put_line.new.sink c.put_line.new.self (header ++ rest)
    c.from_residual.ensures.1
    (part_more g.S.Sink.written g.S.Sink.flushed g.S.Sink.faults g.S.Sink.has_room c.args.sink.now c.args.block.now
    c.put_line.new.sink c.put_line.new.self header rest
    (subst (λ t. Stops g.S.Sink.written g.S.Sink.flushed g.S.Sink.faults g.S.Sink.has_room c.args.sink.now
    c.put_line.new.sink (c.args.block.now ++ t)) c.header.ensures c.in_err-put_line.ensures)))

pub returns-in_err-put_scopes : goal.returns-in_err-put_scopes
returns-in_err-put_scopes g c =
    let f = formula c.args.header c.args.prefix.now c.args.matrix.now in
    let header = line_text (header_line f.declared_vars f.declared_clauses) in
    let scopes = flat_map scope_text f.prefix in
    let clauses = flat_map clause_text f.clauses in
    subst (λ t. Puts g.S.Sink.written g.S.Sink.flushed g.S.Sink.faults g.S.Sink.has_room c.args.sink.now
    c.args.block.now
    c.put_scopes.new.sink c.put_scopes.new.block t c.from_residual-in_err-put_scopes.result)
    (sym (text_is f))
    (puts_err g.S.Sink.written g.S.Sink.flushed g.S.Sink.faults g.S.Sink.has_room _
    c.from_residual-in_err-put_scopes.result c.args.sink.now c.args.block.now c.put_scopes.new.sink
    c.put_scopes.new.block
    (header ++ (scopes ++ clauses)) c.from_residual-in_err-put_scopes.ensures.1
    (part_then g.S.Sink.written g.S.Sink.flushed g.S.Sink.faults g.S.Sink.has_room c.args.sink.now c.args.block.now
    c.put_line.new.sink c.put_line.new.self c.put_scopes.new.sink c.put_scopes.new.block header (scopes ++ clauses)
    (subst (λ t. PassesOn g.S.Sink.written g.S.Sink.flushed g.S.Sink.faults g.S.Sink.has_room c.args.sink.now
    c.args.block.now
    c.put_line.new.sink c.put_line.new.self t) c.header.ensures c.in_ok-put_line.ensures)
    (part_more g.S.Sink.written g.S.Sink.flushed g.S.Sink.faults g.S.Sink.has_room c.put_line.new.sink
    c.put_line.new.self
    c.put_scopes.new.sink c.put_scopes.new.block scopes clauses c.in_err-put_scopes.ensures)))

pub returns : goal.returns
returns g c =
    let f = formula c.args.header c.args.prefix.now c.args.matrix.now in
    let header = line_text (header_line f.declared_vars f.declared_clauses) in
    let scopes = flat_map scope_text f.prefix in
    let clauses = flat_map clause_text f.clauses in
    subst (λ t. Puts g.S.Sink.written g.S.Sink.flushed g.S.Sink.faults g.S.Sink.has_room c.args.sink.now
    c.args.block.now
    c.put_matrix.new.sink c.put_matrix.new.block t c.put_matrix.result) (sym (text_is f))
    (puts_then g.S.Sink.written g.S.Sink.flushed g.S.Sink.faults g.S.Sink.has_room c.put_matrix.result
    c.args.sink.now c.args.block.now c.put_line.new.sink c.put_line.new.self c.put_matrix.new.sink
    c.put_matrix.new.block header
    (scopes ++ clauses)
    (subst (λ t. PassesOn g.S.Sink.written g.S.Sink.flushed g.S.Sink.faults g.S.Sink.has_room c.args.sink.now
    c.args.block.now
    c.put_line.new.sink c.put_line.new.self t) c.header.ensures c.in_ok-put_line.ensures)
    (puts_then g.S.Sink.written g.S.Sink.flushed g.S.Sink.faults g.S.Sink.has_room c.put_matrix.result
    c.put_line.new.sink c.put_line.new.self c.put_scopes.new.sink c.put_scopes.new.block c.put_matrix.new.sink
    c.put_matrix.new.block scopes
    clauses c.in_ok-put_scopes.ensures
    c.put_matrix.ensures))
