use Rattle.page_texts.proofs.PageReading.{string_reads_back, page_reads_back, rising_page}
use Rattle.page_texts.proofs.SafeReading.{reads_as_plain}
use Rattle.page_texts.proofs.laws.data_reads_back.Goals as goal

pub returns-clause-texts : goal.returns-clause-texts
returns-clause-texts c = string_reads_back

pub returns-clause-values : goal.returns-clause-values
returns-clause-values c = reads_as_plain

pub returns-clause-pages : goal.returns-clause-pages
returns-clause-pages c = page_reads_back

pub returns-clause-rising : goal.returns-clause-rising
returns-clause-rising c = rising_page
