-- Which file a part is (this project's own).
use Rattle.base_files.specs.declared.part.Part.{Part}
use Rattle.base_files.specs.declared.part.Part.TheVariants.{Index, Names}

-- That of the part, of what is said of the index file and of the names file.
abbrev pub of_part : {T : Type 0} → Part → T → T → T
of_part Index index names = index
of_part Names index names = names
