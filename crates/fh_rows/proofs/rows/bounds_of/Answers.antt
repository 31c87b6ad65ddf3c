use Rattle.std.proofs.Common.{rules}
use Rattle.std.specs.Ordering.{is_lt, is_le}
use Rattle.std.proofs.lemmas.List.Sorted.{IsPartitionPoint-from_clause}
use Rattle.fh_rows.proofs.Spans.{parted_before, parted_upto, begins_first, rows_at-range, without_row_at-range}
use Rattle.fh_rows.proofs.rows.bounds_of.Goals as goal

pub returns-clause-order : goal.returns-clause-order
returns-clause-order g c =
    let place = g.S.Span.place c.args.span.now in
    let spans = g.met.S.Span.spans c.args.span.now in
    let rows = c.args.rows.now in
    let first = IsPartitionPoint-from_clause (λ row. is_lt
    (place row)) rows _ c.partition_point.ensures.partitioned
    (parted_before g.R.Row.order place spans rows c.requires) (λ a r f' called. search rules) in
    let last = IsPartitionPoint-from_clause (λ row. is_le
    (place row)) rows _ c.partition_point-2.ensures.partitioned
    (parted_upto g.R.Row.order place spans rows c.requires) (λ a r f' called. search rules) in
    begins_first g.R.Row.order place spans rows c.requires _ _ first last c.partition_point.ensures.bound c.partition_point-2.ensures.bound

pub returns-clause-part : goal.returns-clause-part
returns-clause-part g c =
    let place = g.S.Span.place c.args.span.now in
    let spans = g.met.S.Span.spans c.args.span.now in
    let rows = c.args.rows.now in
    let first = IsPartitionPoint-from_clause (λ row. is_lt
    (place row)) rows _ c.partition_point.ensures.partitioned
    (parted_before g.R.Row.order place spans rows c.requires) (λ a r f' called. search rules) in
    let last = IsPartitionPoint-from_clause (λ row. is_le
    (place row)) rows _ c.partition_point-2.ensures.partitioned
    (parted_upto g.R.Row.order place spans rows c.requires) (λ a r f' called. search rules) in
    rows_at-range g.R.Row.order place spans rows c.requires _ _ first last c.partition_point.ensures.bound c.partition_point-2.ensures.bound

pub returns-clause-rest : goal.returns-clause-rest
returns-clause-rest g c =
    let place = g.S.Span.place c.args.span.now in
    let spans = g.met.S.Span.spans c.args.span.now in
    let rows = c.args.rows.now in
    let first = IsPartitionPoint-from_clause (λ row. is_lt
    (place row)) rows _ c.partition_point.ensures.partitioned
    (parted_before g.R.Row.order place spans rows c.requires) (λ a r f' called. search rules) in
    let last = IsPartitionPoint-from_clause (λ row. is_le
    (place row)) rows _ c.partition_point-2.ensures.partitioned
    (parted_upto g.R.Row.order place spans rows c.requires) (λ a r f' called. search rules) in
    without_row_at-range g.R.Row.order place spans rows c.requires _ _ first last c.partition_point.ensures.bound c.partition_point-2.ensures.bound
