-- What contracts see of an answer of the code.
use Rattle.std.specs.Prelude.{◌≡◌, ◌++◌, ⊤, Result, Ok, Err}
use Rattle.std.specs.Result.{result_map_both}
use Rattle.request.specs.CommandLine.{Text}
use Rattle.task.specs.declared.fault.TaskFault.{TaskFault}
use Rattle.task.specs.declared.fault.TaskFault.TheVariants.{OutOfMemory, Usage}
use Rattle.task.specs.declared.fault.UsageFault.{UsageFault}

-- the text of a fault
abbrev pub fault_text : UsageFault → Text
fault_text fault = fault.word.now ++ fault.complaint.now

-- its value as the definitions have it, or the text of its fault
abbrev pub seen : {A B : Type 0} → (A → B) → Result A UsageFault → Result B Text
seen view = result_map_both view fault_text

-- an answer whose value is that of the definitions
abbrev pub judged : {A : Type 0} → Result A UsageFault → Result A Text
judged = seen (λ x. x)

-- the answer is the defined one, or memory ran out
abbrev pub IsAsDefined : {A B : Type 0} → (A → B) → Result B Text → Result A TaskFault → Type 0
IsAsDefined view wanted (Ok x) = wanted ≡ Ok (view x)
IsAsDefined view wanted (Err (Usage fault)) = wanted ≡ Err (fault_text fault)
IsAsDefined view wanted (Err OutOfMemory) = ⊤
