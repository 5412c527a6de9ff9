use Rattle.py_parser.proofs.parser.+parse_block.Given as goal

abbrev pub decreases-parse_block : goal.decreases-parse_block
decreases-parse_block l = l.fuel
