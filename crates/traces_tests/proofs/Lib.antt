mod JudgedTraces
