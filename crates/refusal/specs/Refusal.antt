-- The numbers of the refusals (01, "Given exactly when (checked in this order)"; 02, Req 04 to 07 and 13).
use Rattle.std.specs.Prelude.{ℕ}
use Rattle.refusal.specs.declared.Refusal.{Refusal}
use Rattle.refusal.specs.declared.Refusal.TheVariants.{BadWindows, BadDirectory, BadDevice, BadProcess, NoProcess, BadLength, FileOutside, NoFile, BadIdentity, UnknownNumber, Overlap, FileOverTables, BadQueue, NotInDomain}

abbrev pub number_of : Refusal → ℕ
number_of BadWindows = 2001
number_of BadDirectory = 2002
number_of BadDevice = 2003
number_of BadProcess = 2004
number_of NoProcess = 2005
number_of BadLength = 2006
number_of FileOutside = 2007
number_of NoFile = 2008
number_of BadIdentity = 2009
number_of UnknownNumber = 2010
number_of Overlap = 2011
number_of FileOverTables = 2012
number_of BadQueue = 2013
number_of NotInDomain = 2014
