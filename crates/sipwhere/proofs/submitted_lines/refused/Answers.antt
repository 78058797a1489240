use Rattle.sipwhere.proofs.submitted_lines.refused.Goals as goal

pub returns-in-NoAddress : goal.returns-in-NoAddress
returns-in-NoAddress g c = λ extent. rw c.in-NoAddress.is (c.without_address.ensures extent)
