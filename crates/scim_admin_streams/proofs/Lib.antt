mod BetweenLemmas
mod BlockLemmas
mod ExportLemmas
mod QueryLemmas
