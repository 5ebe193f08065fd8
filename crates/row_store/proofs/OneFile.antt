-- A whole log file of one put, computed.
use Rattle.std.specs.Prelude.{refl}
use Rattle.flash_list.specs.Fields.{number_at}
use Rattle.flash_list.specs.Steps.{each_at}
use Rattle.log_codec.specs.Fields.{number_in, byte_in, bytes_at}
use Rattle.log_codec.specs.Frames.{handle_at, high_at, range_at, epoch_at, head_at, value_at, op_at, each_op_at, ops_at, open_at, write_at, body_at, entry_at, payload_of, sized_at, frame_at, framed}
use Rattle.log_codec.specs.Header.{id_at, column_at, columns_at, header_at, headed}
use Rattle.row_store.specs.OneFile.{FileIsRead}
use Rattle.row_store.specs.Readers.{readers}

pub file_is_read : FileIsRead
unfolding readers number_at each_at number_in byte_in bytes_at handle_at high_at range_at epoch_at head_at value_at op_at each_op_at ops_at open_at write_at body_at entry_at payload_of sized_at frame_at framed id_at column_at columns_at header_at headed
file_is_read = record { header = refl; opened = refl; written = refl }
