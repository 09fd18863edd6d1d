use Rattle.std.proofs.Common.{◌+◌, ◌^◌, ◌<◌, length, sym, refl, ap, rules}
use Rattle.tables.specs.Lists.{within}
use mir.Syntax.{Ty}
use prog.Memory.{up, align, size}
use denote.Array as array
use denote.Param as param
use denote.Struct as struct'
use borrow.Rule.Slice.AtParam.{field_room}
use denote.Enum as enum
use Rattle.std.specs.contracts.option.Option as option
use Rattle.tables.specs.contracts.tables.Tables as tables
use Rattle.aggregates.specs.contracts.progress.Progress as progress
use Rattle.stream.specs.contracts.run.BoundedWindowAggStream as run-type
use Rattle.stream.specs.contracts.run.BoundedWindowAggStream.new as here
use Rattle.stream.proofs.run.BoundedWindowAggStream.new.Goals as goal

pub new-requires : goal.new-requires
new-requires g c =
    -- the tables have room where the run that holds them has
    let whole : Ty = param.layout (run-type.the_row (here.K-row g.row.K g.row.S g.row.F) (here.S-row g.row.K g.row.S g.row.F) (here.F-row g.row.K g.row.S g.row.F)) in
    let part : Ty = struct'.Struct.layout (struct'.Declared.shape (tables.the_type (here.K-row g.row.K g.row.S g.row.F) (array.Array (enum.Declared.row (option.the_type struct'.Field.i64-field.row)) 4) progress.the_row)) in
    let small : size whole < 2 ^ 63 = search rules in
    field_room whole 0 part (up (align part) 0) refl small

pub invariant_of-result : goal.invariant_of-result
invariant_of-result g c = record { counted = sym (ap (λ t. 0 + length t.waiting) c.new.ensures); few = ap (λ t. within 0 t.held) c.new.ensures }
