mod TextLemmas
mod TableLemmas
mod Pieces
