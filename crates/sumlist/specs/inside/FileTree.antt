-- What contracts see of the files of the system.
use Rattle.std.specs.Prelude.{Bool}
use Rattle.sumlist.specs.declared.files.FileTree.{FileTree}

-- other runs read the same files
abbrev pub tree_is_shared : {R F G : Type 0} → FileTree R F G → Bool
tree_is_shared t = t.is_shared
