use Rattle.std.proofs.Common.{◌++◌, SFits, length, sym, subst}
use Rattle.std.specs.Prelude.{map}
use Rattle.std.specs.Int.{w16, w64, to_be_bytes}
use Rattle.std.specs.List.{flat_map}
use Rattle.std.proofs.lemmas.List.{length-map}
use Rattle.std.proofs.lemmas.Int.{to_z-of_z}
use Rattle.log_codec.specs.Header.{magic}
use Rattle.log_codec.specs.Spelling as spelling
use Rattle.committed_log.specs.Digest.{Feeds, spec_of}
use Rattle.committed_log.proofs.Feeding.{both}
use Rattle.committed_log.proofs.digest.feed_header.Goals as goal

pub returns : goal.returns
unfolding spelling.header
returns c =
    let specs = map spec_of c.args.columns.now in
    let name = to_be_bytes w64 magic in
    let version = to_be_bytes w16 1 in
    let table = spelling.handle c.args.table in
    let count = to_be_bytes w16 (length specs) in
    let columns = flat_map spelling.column specs in
    let fits : SFits w64 c.args.table = c.ranges.table in
    let third = simp to_z-of_z at c.feed_handle.ensures in
    let fourth = subst (λ n. Feeds c.feed_handle.new.into (to_be_bytes w16 n) c.feed_u16-2.new.into) (sym (length-map c.args.columns.now spec_of)) c.feed_u16-2.ensures in
    let last = both c.feed_handle.new.into c.feed_u16-2.new.into c.feed_columns.new.into count columns fourth c.feed_columns.ensures in
    let tail = both c.feed_u16.new.into c.feed_handle.new.into c.feed_columns.new.into table (count ++ columns) third last in
    let middle = both c.feed_u64.new.into c.feed_u16.new.into c.feed_columns.new.into version (table ++ (count ++ columns)) c.feed_u16.ensures tail in
    both c.args.into.now c.feed_u64.new.into c.feed_columns.new.into name (version ++ (table ++ (count ++ columns))) c.feed_u64.ensures middle
