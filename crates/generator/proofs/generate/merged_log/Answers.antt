use Rattle.std.proofs.Common.{◌∙◌, ap, arith}
use Rattle.generator.specs.Generated.{prepared, merged}
use Rattle.generator.proofs.Making.{last_is, last_low, first_fine, second_fine, made}
use Rattle.generator.proofs.generate.merged_log.Goals as goal

pub prepared-requires : goal.prepared-requires
prepared-requires c =
    let eight = c.last_index-eight.ensures ∙ last_is c.args.n c.in_ok-logs.logs c.in_ok-logs.ensures c.requires 8 (omega arith) (omega arith) in
    last_low c.args.n c.in_ok-logs.logs c.in_ok-logs.ensures c.requires 8 c.last_index-eight.result eight

pub merged-requires : goal.merged-requires
merged-requires c =
    let seven = c.last_index-seven.ensures ∙ last_is c.args.n c.in_ok-logs.logs c.in_ok-logs.ensures c.requires 7 (omega arith) (omega arith) in
    last_low c.args.n c.in_ok-logs.logs c.in_ok-logs.ensures c.requires 7 c.last_index-seven.result seven

pub add-requires-clause-writable : goal.add-requires-clause-writable
add-requires-clause-writable c =
    let eight = c.last_index-eight.ensures ∙ last_is c.args.n c.in_ok-logs.logs c.in_ok-logs.ensures c.requires 8 (omega arith) (omega arith) in
    (first_fine c.args.n c.in_ok-logs.logs c.in_ok-logs.ensures c.requires c.prepared.result (c.prepared.ensures ∙ ap prepared eight)).0

pub add-requires-clause-none : goal.add-requires-clause-none
add-requires-clause-none c =
    let eight = c.last_index-eight.ensures ∙ last_is c.args.n c.in_ok-logs.logs c.in_ok-logs.ensures c.requires 8 (omega arith) (omega arith) in
    (first_fine c.args.n c.in_ok-logs.logs c.in_ok-logs.ensures c.requires c.prepared.result (c.prepared.ensures ∙ ap prepared eight)).1

pub add-requires-2-clause-writable : goal.add-requires-2-clause-writable
add-requires-2-clause-writable c =
    let eight = c.last_index-eight.ensures ∙ last_is c.args.n c.in_ok-logs.logs c.in_ok-logs.ensures c.requires 8 (omega arith) (omega arith) in
    let seven = c.last_index-seven.ensures ∙ last_is c.args.n c.in_ok-logs.logs c.in_ok-logs.ensures c.requires 7 (omega arith) (omega arith) in
    (second_fine c.args.n c.in_ok-logs.logs c.in_ok-logs.ensures c.requires c.prepared.result (c.prepared.ensures ∙ ap prepared eight) c.add.new.logs c.in_ok-add.ensures c.merged.result (c.merged.ensures ∙ ap merged seven)).0

pub add-requires-2-clause-none : goal.add-requires-2-clause-none
add-requires-2-clause-none c =
    let eight = c.last_index-eight.ensures ∙ last_is c.args.n c.in_ok-logs.logs c.in_ok-logs.ensures c.requires 8 (omega arith) (omega arith) in
    let seven = c.last_index-seven.ensures ∙ last_is c.args.n c.in_ok-logs.logs c.in_ok-logs.ensures c.requires 7 (omega arith) (omega arith) in
    (second_fine c.args.n c.in_ok-logs.logs c.in_ok-logs.ensures c.requires c.prepared.result (c.prepared.ensures ∙ ap prepared eight) c.add.new.logs c.in_ok-add.ensures c.merged.result (c.merged.ensures ∙ ap merged seven)).1

pub returns : goal.returns
returns c =
    let eight = c.last_index-eight.ensures ∙ last_is c.args.n c.in_ok-logs.logs c.in_ok-logs.ensures c.requires 8 (omega arith) (omega arith) in
    let seven = c.last_index-seven.ensures ∙ last_is c.args.n c.in_ok-logs.logs c.in_ok-logs.ensures c.requires 7 (omega arith) (omega arith) in
    made c.args.n c.in_ok-logs.logs c.in_ok-logs.ensures c.requires c.prepared.result (c.prepared.ensures ∙ ap prepared eight) c.add.new.logs c.in_ok-add.ensures c.merged.result (c.merged.ensures ∙ ap merged seven) c.add-2.new.logs c.in_ok-add-2.ensures
