use Rattle.std.proofs.Common.{SFits, w64, rules, subst, sym}
use Rattle.std.proofs.lemmas.Int.{to_z-of_z}
use Rattle.column_block.specs.Schemas.{IsSchema}
use Rattle.log_codec.specs.Writable.{AreBytes}
use Rattle.log_file.specs.Values.{columns_of}
use Rattle.log_file.proofs.Files.{is_schema, nothing_read}
use Rattle.log_file.proofs.log.log_of.Goals as goal

pub schema_of-requires : goal.schema_of-requires
schema_of-requires c =
    let all : AreBytes c.args.bytes.now = λ i. (c.type_inv.bytes i).fits in
    let spelled = c.headers_have_one_spelling.ensures c.args.bytes.now c.in-Ok.read all c.in-Ok.ensures.exact in
    subst (λ columns. IsSchema (columns_of columns)) (sym c.as_slice.ensures) (is_schema c.in-Ok.read.0 spelled.1.0)

pub read_frames-requires-clause-begun : goal.read_frames-requires-clause-begun
read_frames-requires-clause-begun c =
    let fits : SFits w64 c.in-Ok.read.0.table = search rules in
    let empty = simp to_z-of_z at c.empty-logs.ensures in
    let schema = simp c.as_slice.ensures at c.in-Some.ensures in
    nothing_read c.args.bytes.now c.in-Ok.read c.empty-logs.result _ c.in-Ok.ensures.exact empty schema c.told_lawful.ensures
