use Rattle.lent_squares.proofs.run.squares.Given as goal

-- the desk that was just opened
abbrev pub ghosts-square_both-J-Naming : goal.ghosts-square_both-J-Naming
ghosts-square_both-J-Naming g a = record { book = a.opened }

-- and the numbers that were asked
abbrev pub ghosts-square_both-J-Asked : goal.ghosts-square_both-J-Asked
ghosts-square_both-J-Asked g a = record { first = a.first; second = a.second }
