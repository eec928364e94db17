mod ClientLines
