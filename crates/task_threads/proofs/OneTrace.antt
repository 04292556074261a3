-- The law that at most one trace follows.
use Rattle.timetable.specs.OneTrace.{AtMostOneFollows}
use Rattle.timetable.proofs.Determined.{one_follows}

pub at_most_one : AtMostOneFollows
at_most_one set rule work n g h tasks fits of_g of_h = one_follows set rule work n g h tasks.each fits of_g of_h
