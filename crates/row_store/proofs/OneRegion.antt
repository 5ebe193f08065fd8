-- The examples of one region, computed.
use Rattle.std.specs.Prelude.{◌≡◌, pos, List, ◌∷◌, [], ◌++◌, refl, true}
use Rattle.std.proofs.Common.{arith}
use Rattle.column_block.specs.Schemas.{IsSchema}
use Rattle.log_codec.specs.declared.entry.Entry.{Entry}
use Rattle.committed_log.specs.Lawful.{IsLawful}
use Rattle.row_store.proofs.Fits.{all_fit, all-true}
use Rattle.row_store.specs.Readers.{readers}
use Rattle.row_store.specs.Logs.{columns, log_of, put_in, writes, five_ab}
use Rattle.row_store.specs.OneRegion.{one_put, put_twice, long_value, extremes, locked_by, put_and_delete, open_below_100, PutIsShown, CommitsRise, LongValueIsFound, ExtremesAreInOrder, LocksAreInTheWay, ReadsWait, DeletesHide, StrangeRowsAreRefused, BoundsKeep}

pub is_schema : IsSchema columns
is_schema = record { rises = refl; few = omega arith }

one_put_fits : all_fit one_put ≡ true
unfolding readers
one_put_fits = refl

one_put_lawful : IsLawful (log_of one_put)
unfolding readers
one_put_lawful = record { schema = is_schema; writable = all-true one_put one_put_fits; admitted = (refl, (refl, tt)) }

pub put_is_shown : PutIsShown
unfolding readers
put_is_shown = record { key = refl; value = refl; lawful = one_put_lawful; at_10 = refl; at_9 = refl; text = refl; text_before = refl }

-- ---- the others

put_twice_fits : all_fit put_twice ≡ true
unfolding readers
put_twice_fits = refl

put_twice_lawful : IsLawful (log_of put_twice)
unfolding readers
put_twice_lawful = record { schema = is_schema; writable = all-true put_twice put_twice_fits; admitted = (refl, (refl, (refl, tt))) }

pub commits_rise : CommitsRise
unfolding readers
commits_rise = record { backdated = refl; again = put_twice_lawful; at_20 = refl }

long_value_fits : all_fit long_value ≡ true
unfolding readers
long_value_fits = refl

long_value_lawful : IsLawful (log_of long_value)
unfolding readers
long_value_lawful = record { schema = is_schema; writable = all-true long_value long_value_fits; admitted = (refl, (refl, (refl, tt))) }

pub long_value_is_found : LongValueIsFound
unfolding readers
long_value_is_found = record { missing = refl; lawful = long_value_lawful; text = refl }

extremes_fit : all_fit extremes ≡ true
unfolding readers
extremes_fit = refl

extremes_lawful : IsLawful (log_of extremes)
unfolding readers
extremes_lawful = record { schema = is_schema; writable = all-true extremes extremes_fit; admitted = (refl, (refl, tt)) }

pub extremes_are_in_order : ExtremesAreInOrder
unfolding readers
extremes_are_in_order = record { lawful = extremes_lawful; text = refl }

locked_fits : all_fit (locked_by 0x50) ≡ true
unfolding readers
locked_fits = refl

locked_lawful : IsLawful (log_of (locked_by 0x50))
unfolding readers
locked_lawful = record { schema = is_schema; writable = all-true (locked_by 0x50) locked_fits; admitted = (refl, (refl, tt)) }

pub locks_are_in_the_way : LocksAreInTheWay
unfolding readers
locks_are_in_the_way = record { lawful = locked_lawful; at_7 = (refl, refl, refl); at_8 = refl; of_read = refl; pessimistic = refl }

pub reads_wait : ReadsWait
unfolding readers
reads_wait = record { index = refl; mark = refl; at_mark = refl; settled = (refl, refl, refl) }

put_and_delete_fits : all_fit put_and_delete ≡ true
unfolding readers
put_and_delete_fits = refl

put_and_delete_lawful : IsLawful (log_of put_and_delete)
unfolding readers
put_and_delete_lawful = record { schema = is_schema; writable = all-true put_and_delete put_and_delete_fits; admitted = (refl, (refl, (refl, tt))) }

pub deletes_hide : DeletesHide
unfolding readers
deletes_hide = record { lawful = put_and_delete_lawful; at_100 = (refl, refl, refl); at_99 = refl; at_79 = refl }

abbrev with_other_table : List Entry
with_other_table = open_below_100 ++ writes 6 (put_in (pos 2) (pos 100) 10 (0x50 ∷ 7 ∷ 0x76 ∷ 15 ∷ five_ab)) ∷ []

other_table_fits : all_fit with_other_table ≡ true
unfolding readers
other_table_fits = refl

other_table_lawful : IsLawful (log_of with_other_table)
unfolding readers
other_table_lawful = record { schema = is_schema; writable = all-true with_other_table other_table_fits; admitted = (refl, (refl, tt)) }

pub strange_rows_are_refused : StrangeRowsAreRefused
unfolding readers
strange_rows_are_refused = record { outside = refl; other_table = other_table_lawful; no_row_of_it = refl; unknown = refl }

pub bounds_keep : BoundsKeep
bounds_keep = record { number = refl; above = refl; no_number = refl; null = refl }
