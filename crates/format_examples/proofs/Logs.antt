-- A log's parts, computed.
use Rattle.std.proofs.Common.{refl}
use Rattle.log_codec.specs.Spelling.{header, op, body, payload, frame}
use Rattle.format_examples.specs.Logs.{LogsInBytes}

pub computed : LogsInBytes
unfolding header op body payload frame
computed = record { front = refl; opened = refl; written = refl; split = refl; prepared = refl; committed = refl; removed = refl; installed = refl; empty = refl }
