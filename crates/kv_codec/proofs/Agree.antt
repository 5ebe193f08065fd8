-- The laws of keys and records.
use Rattle.kv_codec.specs.Laws.{KeysAreFound, TimestampsAreSplit, KeysAreInOrder, WritesAreReadAgain, LocksAreReadAgain}
use Rattle.kv_codec.proofs.KeysAgain.{key_found, timestamp_split}
use Rattle.kv_codec.proofs.LocksAgain.{lock_again}
use Rattle.kv_codec.proofs.Order.{keys_order}
use Rattle.kv_codec.proofs.Written.{write_again}

pub keys_found : KeysAreFound
keys_found table handle ft fh = key_found table handle ft fh

pub timestamps_split : TimestampsAreSplit
timestamps_split key ts lt = timestamp_split key ts lt

pub keys_in_order : KeysAreInOrder
keys_in_order table a b fa fb lt = keys_order table a b fa fb lt

pub writes_again : WritesAreReadAgain
writes_again w rest fits follow = write_again w rest fits follow

pub locks_again : LocksAreReadAgain
locks_again l rest fits = lock_again l rest fits
