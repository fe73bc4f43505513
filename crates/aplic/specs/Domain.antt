-- The table that a domain stands for: the one that its words stand for where they are lent. Any domain stands for one.
use Rattle.source.specs.Table.{Table}
use Rattle.aplic_words.specs.State.{table_in}
use Rattle.aplic.specs.declared.Domain.{Domain}

unfoldable pub table_of : Domain → Table
table_of d = table_in d.words
