use Rattle.hash_c.proofs.lists.sums_list_end.Goals as goal

pub returns-in-Ok-clause-last : goal.returns-in-Ok-clause-last
returns-in-Ok-clause-last c = λ kind n begun holds some _.
    (c.in-Ok.ensures.line kind n begun holds some, c.in-Ok.ensures.next kind n begun holds some)
