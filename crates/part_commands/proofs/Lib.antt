mod Processors
